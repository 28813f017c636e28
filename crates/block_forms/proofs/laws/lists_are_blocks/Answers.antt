use Rattle.block_forms.proofs.Blocks.{lists_are_blocks}
use Rattle.block_forms.proofs.laws.lists_are_blocks.Goals as goal

pub returns : goal.returns
returns c = lists_are_blocks
