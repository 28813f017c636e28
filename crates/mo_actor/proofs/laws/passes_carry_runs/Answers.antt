use Rattle.std.proofs.Common.{◌≡◌, true}
use Rattle.mo_actor.specs.Measures.{Spent, Unmeasured}
use Rattle.mo_actor.proofs.Carried.{carry}
use Rattle.mo_actor.proofs.laws.passes_carry_runs.Goals as goal

pub returns-clause-runs : goal.returns-clause-runs
returns-clause-runs g c = λ related alike_kept weighs given own ps qs all events allowed items h. carry (λ p q s t. related p q s t ≡ true) (λ k l. alike_kept k l ≡ true) (λ x y. weighs x y ≡ true) (λ e. given e ≡ true) Unmeasured Unmeasured own ps qs all events allowed items h

pub returns-clause-measured : goal.returns-clause-measured
returns-clause-measured g c = λ steps stack pages steps_before stack_before pages_before related alike_kept weighs given own ps qs all events allowed items h.
    carry (λ p q s t. related p q s t ≡ true) (λ k l. alike_kept k l ≡ true) (λ x y. weighs x y ≡ true) (λ e. given e ≡ true) (Spent steps_before stack_before pages_before) (Spent steps stack pages) own ps qs all events allowed items h
