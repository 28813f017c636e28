use Rattle.mo_actor.proofs.CommandsSettle.{programs_settle}
use Rattle.mo_actor.proofs.rows.programs_of_rows_settle.Goals as goal

pub returns : goal.returns
returns c = λ source. programs_settle source
