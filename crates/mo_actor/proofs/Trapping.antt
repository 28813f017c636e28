-- An execution of one turn that traps.
use Rattle.std.proofs.Common.{◌≡◌, ℕ, zero, suc, List, Some, refl}
use Rattle.mo_actor.specs.Executions.{Completes, Settles, trapping}

pub settles : {A : Type 0} (text : List ℕ) → Settles (trapping {A = A} text)
settles text zero end e = absurd (cc)
settles text (suc n) end e = refl

pub never_completes : {A : Type 0} (text : List ℕ) (n : ℕ) (result : A) → (trapping {A = A} text n).completion ≡ Some (Completes result) → ⊥
never_completes text zero result e = absurd (cc)
never_completes text (suc n) result e = absurd (cc)
