use Rattle.std.proofs.Common.{refl}
use Rattle.typed_tree.proofs.rows.orders_are_as_wanted.Goals as goal

pub returns : goal.returns
returns c = refl
