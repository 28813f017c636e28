use Rattle.operation_lines.proofs.Heaped.{operations_kept}
use Rattle.operation_lines.proofs.laws.operations_keep.Goals as goal

pub returns : goal.returns
returns g c = operations_kept _
