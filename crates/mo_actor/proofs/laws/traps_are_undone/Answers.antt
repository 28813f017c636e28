use Rattle.mo_actor.specs.Measures.{Unmeasured}
use Rattle.mo_actor.proofs.Undone.{traps_are_undone}
use Rattle.mo_actor.proofs.laws.traps_are_undone.Goals as goal

pub returns : goal.returns
returns g c = traps_are_undone _ Unmeasured
