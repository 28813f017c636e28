-- Lists of types that are compared one by one.
use Rattle.std.proofs.Common.{◌≡◌, ℕ, suc, ◌+◌, ◌<◌, List, [], ◌∷◌, length, drop, get_or, drop-cons, add-one, refl, ap, ◌∙◌, Bool, true, false}
use Rattle.std.specs.Prelude.{◌&&◌, ◌≢◌}
use Rattle.wasm_tree.specs.declared.types.ValueType.{ValueType}
use Rattle.wasm_tree.specs.Exec.{same_kind}
use Rattle.wasm_valid.specs.Parts.{same_kinds}

pub lengths_differ : (js ks : List ValueType) → length js ≢ length ks → false ≡ same_kinds js ks
lengths_differ [] [] h = absurd (h refl)
lengths_differ [] (k ∷ ks) h = refl
lengths_differ (j ∷ js) [] h = refl
lengths_differ (j ∷ js) (k ∷ ks) h = first (same_kind j k) (lengths_differ js ks (λ e. h (ap suc e)))
  where
    first : (b : Bool) → false ≡ same_kinds js ks → false ≡ b && same_kinds js ks
    first true e = e
    first false e = refl

turn : (js ks : List ValueType) (i : ℕ) (d : ValueType) → i < length js → i < length ks → same_kinds (drop i js) (drop i ks) ≡ same_kind (get_or js i d) (get_or ks i d) && same_kinds (drop (i + 1) js) (drop (i + 1) ks)
turn js ks i d h g = rw (add-one, drop-cons js i d, drop-cons ks i d) refl

pub other_kind : (js ks : List ValueType) (i : ℕ) (d : ValueType) → i < length js → i < length ks → same_kind (get_or js i d) (get_or ks i d) ≡ false → same_kinds (drop i js) (drop i ks) ≡ false
other_kind js ks i d h g e = turn js ks i d h g ∙ ap (λ b. b && same_kinds (drop (i + 1) js) (drop (i + 1) ks)) e

pub kind_after : (js ks : List ValueType) (i : ℕ) (d : ValueType) → i < length js → i < length ks → same_kind (get_or js i d) (get_or ks i d) ≡ true → same_kinds (drop i js) (drop i ks) ≡ same_kinds (drop (i + 1) js) (drop (i + 1) ks)
kind_after js ks i d h g e = turn js ks i d h g ∙ ap (λ b. b && same_kinds (drop (i + 1) js) (drop (i + 1) ks)) e
