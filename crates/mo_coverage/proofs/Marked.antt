-- Marks.
use Rattle.std.proofs.Common.{◌≡◌, ◌⊎◌, inl, inr, ℕ, zero, suc, ◌<◌, List, [], ◌∷◌, length, map, Bool, true, false, Some, get_or, refl, ap, ◌∙◌}
use Rattle.std.specs.Prelude.{slice_get, slice_set}
use Rattle.std.specs.Option.{option_map}
use Rattle.std.proofs.lemmas.Option.{slice_get-map, slice_get_read}
use Rattle.std.proofs.Math.ListN.{replicate}
use Rattle.typed_tree.specs.Patterns.{Pat}

pub none_marked : (n i : ℕ) → slice_get (replicate n false) i ≡ Some true → ⊥
none_marked zero i e = cc
none_marked (suc n) zero e = cc
none_marked (suc n) (suc i) e = none_marked n i e

pub set_true : (marks : List Bool) (j i : ℕ) → slice_get (slice_set marks j true) i ≡ Some true → (slice_get marks i ≡ Some true) ⊎ (i ≡ j)
set_true [] j i e = inl e
set_true (m ∷ marks) zero zero e = inr refl
set_true (m ∷ marks) zero (suc i) e = inl e
set_true (m ∷ marks) (suc j) zero e = inl e
set_true (m ∷ marks) (suc j) (suc i) e = by (set_true marks j i e)
  where
    by : (slice_get marks i ≡ Some true) ⊎ (i ≡ j) → (slice_get marks i ≡ Some true) ⊎ (suc i ≡ suc j)
    by (inl h) = inl h
    by (inr h) = inr (ap suc h)

pub at_index : {A : Type 0} (f : A → Pat) (ps : List A) (i : ℕ) (p : A) → i < length ps → p ≡ get_or ps i p → slice_get (map f ps) i ≡ Some (f p)
at_index f ps i p h e = slice_get-map f ps i ∙ ap (option_map f) (slice_get_read ps (length ps) i p refl h e)
