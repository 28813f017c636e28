-- The program of an accepted source, alone in a list.
use Rattle.std.proofs.Common.{◌≡◌, ℕ, zero, suc, List, [], ◌∷◌, Some, None, refl, subst}
use Rattle.mo_actor.specs.Programs as actor
use Rattle.typed_tree.specs.declared.program.Program.{Program}
use Rattle.typed_tree.specs.ProgramView.{program}
use Rattle.mo_meaning.specs.Actor.{meaning}
use Rattle.mo_meaning.specs.Coding.{Coding}
use Rattle.mo_meaning.specs.Kernel.{kernel}
use Rattle.mo_front.specs.Fronts.{Accepted}
use Rattle.mo_front.proofs.WellTyped.{accepted_well_typed}
use Rattle.program_soundness.specs.Actors.{IsTypedProgram, AreTyped}

pub accepted_typed : (source : List ℕ) (made : Program) → Accepted source made → (coding : Coding) (first : ℕ) → IsTypedProgram coding (meaning coding first made.types (program made))
accepted_typed source made h coding first = record { program_of = made; first = first; well_typed = accepted_well_typed source made h; is = refl }

one_typed : (coding : Coding) (q : actor.Program kernel) → IsTypedProgram coding q → AreTyped coding (q ∷ [])
one_typed coding q t zero r e = let z : Some q ≡ Some r = e in let same : q ≡ r = cc in subst (IsTypedProgram coding) same t
one_typed coding q t (suc n) r e = absurd (let z : None ≡ Some r = e in cc)

pub all_typed : (source : List ℕ) (made : Program) → Accepted source made → (coding : Coding) (first : ℕ) → AreTyped coding (meaning coding first made.types (program made) ∷ [])
all_typed source made h coding first = one_typed coding (meaning coding first made.types (program made)) (accepted_typed source made h coding first)
