use Rattle.std.proofs.Common.{◌≡◌, true}
use Rattle.actor_refinement.specs.Laws.{SoundAnd, any_exhaustion, no_exhaustion, spent_exhaustion}
use Rattle.low_refinement.proofs.Carried.{low_refines}
use Rattle.low_refinement.proofs.laws.low_simulations_refine.Goals as goal

pub returns-clause-refines : goal.returns-clause-refines
returns-clause-refines g c = λ stable given related p m formed s.
    low_refines (λ limits own charged state c waiting. related limits own charged state c waiting ≡ true) (λ kept memory. stable kept memory ≡ true) (SoundAnd given) any_exhaustion p m formed s

pub returns-clause-measured : goal.returns-clause-measured
returns-clause-measured g c = λ stable given related p m formed s.
    low_refines (λ limits own charged state c waiting. related limits own charged state c waiting ≡ true) (λ kept memory. stable kept memory ≡ true) (SoundAnd given) spent_exhaustion p m formed s

pub returns-clause-unexhausted : goal.returns-clause-unexhausted
returns-clause-unexhausted g c = λ stable given related p m formed s.
    low_refines (λ limits own charged state c waiting. related limits own charged state c waiting ≡ true) (λ kept memory. stable kept memory ≡ true) (SoundAnd given) no_exhaustion p m formed s
