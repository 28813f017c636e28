use Rattle.leaf_blocks.proofs.Leaves.{bytes_ready}
use Rattle.leaf_blocks.proofs.laws.bytes_are_ready.Goals as goal

pub returns : goal.returns
returns c = bytes_ready
