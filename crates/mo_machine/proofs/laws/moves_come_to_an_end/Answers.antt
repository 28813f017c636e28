use Rattle.mo_machine.proofs.Falls.{falls}
use Rattle.mo_machine.proofs.laws.moves_come_to_an_end.Goals as goal

pub returns : goal.returns
returns c = λ f k. falls f k
