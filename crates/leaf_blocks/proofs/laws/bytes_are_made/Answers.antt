use Rattle.leaf_blocks.proofs.Leaves.{bytes_made}
use Rattle.leaf_blocks.proofs.laws.bytes_are_made.Goals as goal

pub returns : goal.returns
returns c = bytes_made
