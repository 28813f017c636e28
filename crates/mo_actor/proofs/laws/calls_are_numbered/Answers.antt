use Rattle.mo_actor.specs.Measures.{Unmeasured}
use Rattle.mo_actor.proofs.Numbers.{calls_are_numbered}
use Rattle.mo_actor.proofs.laws.calls_are_numbered.Goals as goal

pub returns : goal.returns
returns g c = calls_are_numbered _ Unmeasured
