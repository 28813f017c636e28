use Rattle.mo_actor.specs.Measures.{Unmeasured}
use Rattle.mo_actor.proofs.Room.{calls_are_bounded}
use Rattle.mo_actor.proofs.laws.calls_are_bounded.Goals as goal

pub returns : goal.returns
returns g c = calls_are_bounded _ Unmeasured
