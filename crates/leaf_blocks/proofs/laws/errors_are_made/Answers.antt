use Rattle.leaf_blocks.proofs.Pairs.{errors_made}
use Rattle.leaf_blocks.proofs.laws.errors_are_made.Goals as goal

pub returns : goal.returns
returns c = errors_made
