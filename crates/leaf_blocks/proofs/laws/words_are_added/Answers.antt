use Rattle.leaf_blocks.proofs.Added.{words_added}
use Rattle.leaf_blocks.proofs.laws.words_are_added.Goals as goal

pub returns : goal.returns
returns c = words_added
