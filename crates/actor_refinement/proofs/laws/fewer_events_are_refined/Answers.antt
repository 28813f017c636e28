use Rattle.std.proofs.Common.{◌≡◌, true}
use Rattle.actor_refinement.specs.Laws.{SoundAnd, any_exhaustion, no_exhaustion, spent_exhaustion}
use Rattle.actor_refinement.proofs.Fewer.{refines_fewer}
use Rattle.actor_refinement.proofs.laws.fewer_events_are_refined.Goals as goal

pub returns-clause-refines : goal.returns-clause-refines
returns-clause-refines g c = λ stable more fewer less p m r. refines_fewer (λ kept memory. stable kept memory ≡ true) (SoundAnd more) (SoundAnd fewer) any_exhaustion any_exhaustion (λ e given. (given.0, less e given.1)) (λ limits e h. h) p m r

pub returns-clause-measured : goal.returns-clause-measured
returns-clause-measured g c = λ stable more fewer less p m r. refines_fewer (λ kept memory. stable kept memory ≡ true) (SoundAnd more) (SoundAnd fewer) spent_exhaustion spent_exhaustion (λ e given. (given.0, less e given.1)) (λ limits e h. h) p m r

pub returns-clause-unexhausted : goal.returns-clause-unexhausted
returns-clause-unexhausted g c = λ stable more fewer less p m r. refines_fewer (λ kept memory. stable kept memory ≡ true) (SoundAnd more) (SoundAnd fewer) no_exhaustion no_exhaustion (λ e given. (given.0, less e given.1)) (λ limits e h. h) p m r
