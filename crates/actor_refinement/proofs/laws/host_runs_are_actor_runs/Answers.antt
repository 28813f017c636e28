use Rattle.std.proofs.Common.{◌≡◌, true}
use Rattle.actor_refinement.specs.Laws.{SoundAnd, any_exhaustion, no_exhaustion, spent_exhaustion}
use Rattle.actor_refinement.proofs.Composition.{host_runs}
use Rattle.actor_refinement.proofs.laws.host_runs_are_actor_runs.Goals as goal

pub returns-clause-runs : goal.returns-clause-runs
returns-clause-runs g c = λ stable given programs modules all limits within own self events allowed once. host_runs (λ kept memory. stable kept memory ≡ true) (SoundAnd given) any_exhaustion limits within own self programs modules all events allowed once

pub returns-clause-measured : goal.returns-clause-measured
returns-clause-measured g c = λ stable given programs modules all limits within own self events allowed once. host_runs (λ kept memory. stable kept memory ≡ true) (SoundAnd given) spent_exhaustion limits within own self programs modules all events allowed once

pub returns-clause-unexhausted : goal.returns-clause-unexhausted
returns-clause-unexhausted g c = λ stable given programs modules all limits within own self events allowed once. host_runs (λ kept memory. stable kept memory ≡ true) (SoundAnd given) no_exhaustion limits within own self programs modules all events allowed once
