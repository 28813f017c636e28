use Rattle.elaboration_steps.proofs.Standing.{stands_move}
use Rattle.elaboration_steps.proofs.laws.moves_are_followed.Goals as goal

pub returns : goal.returns
returns c = stands_move
