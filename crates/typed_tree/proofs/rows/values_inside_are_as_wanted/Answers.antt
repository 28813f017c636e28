use Rattle.std.proofs.Common.{refl}
use Rattle.typed_tree.proofs.rows.values_inside_are_as_wanted.Goals as goal

pub returns : goal.returns
returns c = refl
