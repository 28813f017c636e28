-- Fields by reference.
use denote.Bor.{Bor}
use Rattle.std.proofs.Common.{◌≡◌, ℕ, zero, suc, ◌<◌, ◌≤◌, List, [], ◌∷◌, ◌++◌, length, get_or, map, take, refl, ap, arith}
use Rattle.mo_types.specs.declared.node.Field.{Field}
use Rattle.mo_types.specs.declared.node.TypeId.{TypeId}
use Rattle.mo_values.specs.Messages.{label_at, labels}
use Rattle.mo_values.specs.Shapes.{Bytes}

pub label_there : (order : List (Bor (Field TypeId))) (i : ℕ) (d : Bor (Field TypeId)) → i < length order → (get_or order i d).now.label ≡ label_at (labels (map (λ f. f.now) order)) i
label_there [] i d h = absurd (omega arith)
label_there (f ∷ fs) zero d h = refl
label_there (f ∷ fs) (suc i) d h = label_there fs i d (omega arith)

pub label_none : (order : List (Bor (Field TypeId))) (i : ℕ) → length order ≤ i → [] ≡ label_at (labels (map (λ f. f.now) order)) i
label_none [] i h = refl
label_none (f ∷ fs) zero h = absurd (omega arith)
label_none (f ∷ fs) (suc i) h = label_none fs i (omega arith)

-- ---- one field more

pub labels_next : (order : List (Bor (Field TypeId))) (i : ℕ) (d : Bor (Field TypeId)) → i < length order
    → take (suc i) (labels (map (λ f. f.now) order)) ≡ take i (labels (map (λ f. f.now) order)) ++ (get_or order i d).now.label ∷ []
labels_next [] i d h = absurd (omega (arith, h))
labels_next (f ∷ fs) zero d h = refl
labels_next (f ∷ fs) (suc i) d h = ap (λ (l : List Bytes). f.now.label ∷ l) (labels_next fs i d (omega (arith, h)))
