use Rattle.routine_lines.proofs.Linked.{calls_kept}
use Rattle.routine_lines.proofs.laws.linked_calls_keep_their_lines.Goals as goal

pub returns : goal.returns
returns g c = calls_kept _
