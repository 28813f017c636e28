use Rattle.mo_actor.specs.Measures.{Unmeasured}
use Rattle.mo_actor.proofs.Unanswered.{unanswered_calls_wait}
use Rattle.mo_actor.proofs.laws.unanswered_calls_wait.Goals as goal

pub returns : goal.returns
returns g c = unanswered_calls_wait _ Unmeasured
