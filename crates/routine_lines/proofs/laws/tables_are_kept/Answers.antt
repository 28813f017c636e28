use Rattle.routine_lines.proofs.Linked.{tables_kept}
use Rattle.routine_lines.proofs.laws.tables_are_kept.Goals as goal

pub returns : goal.returns
returns g c = tables_kept _
