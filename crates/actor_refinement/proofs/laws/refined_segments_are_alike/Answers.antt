use Rattle.std.proofs.Common.{◌≡◌, true}
use Rattle.actor_refinement.specs.Laws.{SoundAnd, any_exhaustion, no_exhaustion, spent_exhaustion}
use Rattle.actor_refinement.proofs.Segments.{has_segments}
use Rattle.actor_refinement.proofs.laws.refined_segments_are_alike.Goals as goal

pub returns-clause-refines : goal.returns-clause-refines
returns-clause-refines g c = λ stable given p m r. has_segments (λ kept memory. stable kept memory ≡ true) (SoundAnd given) any_exhaustion p m r

pub returns-clause-measured : goal.returns-clause-measured
returns-clause-measured g c = λ stable given p m r. has_segments (λ kept memory. stable kept memory ≡ true) (SoundAnd given) spent_exhaustion p m r

pub returns-clause-unexhausted : goal.returns-clause-unexhausted
returns-clause-unexhausted g c = λ stable given p m r. has_segments (λ kept memory. stable kept memory ≡ true) (SoundAnd given) no_exhaustion p m r
