use Rattle.block_laws.proofs.Walking.{lists_are_walked}
use Rattle.block_laws.proofs.laws.lists_are_walked.Goals as goal

pub returns : goal.returns
returns c = lists_are_walked
