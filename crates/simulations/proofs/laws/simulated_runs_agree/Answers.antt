use Rattle.std.proofs.Common.{◌≡◌, true}
use Rattle.simulations.proofs.WholeRuns.{whole_runs}
use Rattle.simulations.proofs.laws.simulated_runs_agree.Goals as goal

pub returns : goal.returns
returns g c = λ step other related fits measure sim. whole_runs step other (λ s t. related s t ≡ true) (λ r q. fits r q ≡ true) measure sim
