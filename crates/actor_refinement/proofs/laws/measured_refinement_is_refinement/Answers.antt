use Rattle.std.proofs.Common.{◌≡◌, true}
use Rattle.actor_refinement.specs.Laws.{SoundAnd, any_exhaustion, no_exhaustion, spent_exhaustion}
use Rattle.actor_refinement.proofs.Fewer.{refines_fewer}
use Rattle.actor_refinement.proofs.laws.measured_refinement_is_refinement.Goals as goal

pub returns-clause-refines : goal.returns-clause-refines
returns-clause-refines g c = λ stable given p m r. refines_fewer (λ kept memory. stable kept memory ≡ true) (SoundAnd given) (SoundAnd given) spent_exhaustion any_exhaustion (λ e h. h) (λ limits e h. tt) p m r

pub returns-clause-unexhausted : goal.returns-clause-unexhausted
returns-clause-unexhausted g c = λ stable given p m r. refines_fewer (λ kept memory. stable kept memory ≡ true) (SoundAnd given) (SoundAnd given) no_exhaustion spent_exhaustion (λ e h. h) (λ limits e h. absurd h) p m r
