use Rattle.mo_actor.specs.Measures.{Unmeasured}
use Rattle.mo_actor.proofs.Once.{calls_are_answered_once}
use Rattle.mo_actor.proofs.laws.calls_are_answered_once.Goals as goal

pub returns : goal.returns
returns g c = calls_are_answered_once _ Unmeasured
