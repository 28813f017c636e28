-- Programs by their numbers.
use Rattle.std.proofs.Common.{◌≡◌, ℕ, zero, suc, List, [], ◌∷◌, map, Option, Some, None, option_map, ap, ◌∙◌, subst}
use Rattle.std.specs.Prelude.{slice_get}
use Rattle.std.proofs.lemmas.Option.{slice_get-map}
use Rattle.mo_actor.proofs.Lists.{from_some}
use Rattle.mo_actor.specs.Programs as Programs
use Rattle.typed_tree.specs.declared.program.Program.{Program as Written}
use Rattle.mo_meaning.specs.Coding.{Coding}
use Rattle.mo_machine.specs.ActorLanguage.{machine}
use Rattle.arena_equality.specs.Own.{AreOwnLabels}
use Rattle.stepper.specs.Standing.{meant, AreOwned}

module _ (coding : Coding) (firsts : Written → ℕ) (ps : List Written) (number : ℕ) where
  abbrev pub named_in : Option (Programs.Program machine)
  named_in = slice_get (map (λ p. meant coding firsts p) ps) number

  pub named_is : (o : Option Written) → slice_get ps number ≡ o → named_in ≡ option_map (λ p. meant coding firsts p) o
  named_is o is = slice_get-map (λ p. meant coding firsts p) ps number ∙ ap (λ (q : Option Written). option_map (λ p. meant coding firsts p) q) is

-- the labels of a program that is there
pub owned_at : (ps : List Written) (i : ℕ) (p : Written) → AreOwned ps → slice_get ps i ≡ Some p → AreOwnLabels p.types
owned_at [] i p owned found = absurd (let f : None ≡ Some p = found in cc)
owned_at (q ∷ ps) zero p owned found =
    let Of : Written → Type 0 = λ w. AreOwnLabels w.types in
    subst Of (from_some found) owned.0
owned_at (q ∷ ps) (suc i) p owned found = owned_at ps i p owned.1 found
