use Rattle.leaf_blocks.proofs.Added.{blocks_added}
use Rattle.leaf_blocks.proofs.laws.blocks_are_added.Goals as goal

pub returns : goal.returns
returns c = blocks_added
