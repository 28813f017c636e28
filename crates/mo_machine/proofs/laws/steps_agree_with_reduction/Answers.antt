use Rattle.mo_machine.proofs.Simulation.{agrees}
use Rattle.mo_machine.proofs.laws.steps_agree_with_reduction.Goals as goal

pub returns : goal.returns
returns c = λ head given store f k. agrees head given store f k
