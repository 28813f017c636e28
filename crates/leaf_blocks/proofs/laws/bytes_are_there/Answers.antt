use Rattle.leaf_blocks.proofs.Leaves.{bytes_there}
use Rattle.leaf_blocks.proofs.laws.bytes_are_there.Goals as goal

pub returns : goal.returns
returns c = bytes_there
