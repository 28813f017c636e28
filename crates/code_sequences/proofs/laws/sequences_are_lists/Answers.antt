use Rattle.code_sequences.proofs.Lists.{lists}
use Rattle.code_sequences.proofs.laws.sequences_are_lists.Goals as goal

pub returns : goal.returns
returns c = lists
