use Rattle.mo_soundness.proofs.Elsewhere.{waits_there}
use Rattle.mo_soundness.proofs.laws.what_waits_waits_over_each_store.Goals as goal

pub returns : goal.returns
returns c = λ head store other e nodes call h. waits_there store other head e nodes call h
