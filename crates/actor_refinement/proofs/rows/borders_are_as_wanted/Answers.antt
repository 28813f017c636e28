use Rattle.actor_refinement.proofs.Borders.{limit_rows, event_rows}
use Rattle.actor_refinement.proofs.rows.borders_are_as_wanted.Goals as goal

pub returns-clause-limits : goal.returns-clause-limits
returns-clause-limits c = limit_rows

pub returns-clause-events : goal.returns-clause-events
returns-clause-events c = event_rows
