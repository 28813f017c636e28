use Rattle.leaf_blocks.proofs.Pairs.{methods_made}
use Rattle.leaf_blocks.proofs.laws.methods_are_made.Goals as goal

pub returns : goal.returns
returns c = methods_made
