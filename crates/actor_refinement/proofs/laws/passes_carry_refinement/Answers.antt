use Rattle.std.proofs.Common.{◌≡◌, true}
use Rattle.actor_refinement.specs.Laws.{SoundAnd, any_exhaustion, no_exhaustion, spent_exhaustion}
use Rattle.actor_refinement.proofs.Carrying.{carry_refines}
use Rattle.actor_refinement.proofs.laws.passes_carry_refinement.Goals as goal

pub returns-clause-refines : goal.returns-clause-refines
returns-clause-refines g c = λ stable_old stable_new alike_kept weighs given related p q m found saved keeps r. carry_refines (λ kept memory. stable_old kept memory ≡ true) (λ kept memory. stable_new kept memory ≡ true) (λ k l. alike_kept k l ≡ true) (λ x y. weighs x y ≡ true) (SoundAnd given) saved (λ limits own s t. related limits own s t ≡ true) any_exhaustion any_exhaustion p q m found keeps r

pub returns-clause-measured : goal.returns-clause-measured
returns-clause-measured g c = λ stable_old stable_new alike_kept weighs given related p q m found saved keeps r. carry_refines (λ kept memory. stable_old kept memory ≡ true) (λ kept memory. stable_new kept memory ≡ true) (λ k l. alike_kept k l ≡ true) (λ x y. weighs x y ≡ true) (SoundAnd given) saved (λ limits own s t. related limits own s t ≡ true) spent_exhaustion spent_exhaustion p q m found keeps r

pub returns-clause-unexhausted : goal.returns-clause-unexhausted
returns-clause-unexhausted g c = λ stable_old stable_new alike_kept weighs given related p q m found saved keeps r. carry_refines (λ kept memory. stable_old kept memory ≡ true) (λ kept memory. stable_new kept memory ≡ true) (λ k l. alike_kept k l ≡ true) (λ x y. weighs x y ≡ true) (SoundAnd given) saved (λ limits own s t. related limits own s t ≡ true) no_exhaustion no_exhaustion p q m found keeps r
