use Rattle.mo_machine.proofs.Actor.{by_machine_same}
use Rattle.mo_machine.proofs.laws.actors_run_by_the_machine.Goals as goal

pub returns : goal.returns
returns c = λ coding first types p. by_machine_same coding first types p
