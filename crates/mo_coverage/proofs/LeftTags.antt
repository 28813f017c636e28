-- A tag that is left.
use Rattle.std.proofs.Common.{◌≡◌, ℕ, zero, suc, List, [], ◌∷◌, Bool, true, false, Some, refl, ap, ◌∙◌}
use Rattle.std.specs.Prelude.{not, ◌&&◌, ◌||◌, slice_get}
use Rattle.mo_types.specs.declared.node.Field.{Field}
use Rattle.mo_types.specs.declared.node.TypeId.{TypeId}
use Rattle.mo_values.specs.Shapes.{Bytes}
use Rattle.pattern_coverage.specs.Cutting.{is_label_among}
use Rattle.mo_coverage.specs.Places.{tag_left}

or_true : (b : Bool) → (b || true) ≡ true
or_true true = refl
or_true false = refl

pub one_left : (has : TypeId → Bool) (fs : List (Field TypeId)) (i : ℕ) (f : Field TypeId) (ls : List Bytes) → slice_get fs i ≡ Some f → (has f.part && not (is_label_among f.label ls)) ≡ true → tag_left has fs ls ≡ true
one_left has [] i f ls g e = cc
one_left has (h ∷ fs) zero f ls g e = let q : h ≡ f = cc in ap (λ x. (has x.part && not (is_label_among x.label ls)) || tag_left has fs ls) q ∙ ap (λ b. b || tag_left has fs ls) e
one_left has (h ∷ fs) (suc i) f ls g e = ap (λ b. (has h.part && not (is_label_among h.label ls)) || b) (one_left has fs i f ls g e) ∙ or_true (has h.part && not (is_label_among h.label ls))
