use Rattle.typed_tree.specs.Soundness.{decided}
use Rattle.typed_tree.proofs.SoundTable.{table}
use Rattle.typed_tree.proofs.laws.operations_keep_types.Goals as goal

pub returns : goal.returns
returns g c = λ head functions answers parameters kinds o. table head (decided functions answers parameters) kinds o
