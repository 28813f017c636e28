-- Fields by reference.
use denote.Bor.{Bor}
use Rattle.std.proofs.Common.{◌≡◌, ℕ, zero, suc, ◌<◌, ◌≤◌, List, [], ◌∷◌, ◌++◌, length, get_or, map, take, refl, ap, arith}
use Rattle.std.specs.Prelude.{slice_get}
use Rattle.mo_types.specs.declared.node.Field.{Field}
use Rattle.mo_types.specs.declared.node.TypeId.{TypeId}
use Rattle.mo_types.specs.Values.{one_type, types_of}

pub type_there : (order : List (Bor (Field TypeId))) (i : ℕ) (d : Bor (Field TypeId)) → i < length order → (get_or order i d).now.part ∷ [] ≡ one_type (slice_get (map (λ f. f.now) order) i)
type_there [] i d h = absurd (omega arith)
type_there (f ∷ fs) zero d h = refl
type_there (f ∷ fs) (suc i) d h = type_there fs i d (omega arith)

pub type_none : (order : List (Bor (Field TypeId))) (i : ℕ) → length order ≤ i → [] ≡ one_type (slice_get (map (λ f. f.now) order) i)
type_none [] i h = refl
type_none (f ∷ fs) zero h = absurd (omega arith)
type_none (f ∷ fs) (suc i) h = type_none fs i (omega arith)

pub types_next : (order : List (Bor (Field TypeId))) (i : ℕ) (d : Bor (Field TypeId)) → i < length order
    → take (suc i) (types_of (map (λ f. f.now) order)) ≡ take i (types_of (map (λ f. f.now) order)) ++ (get_or order i d).now.part ∷ []
types_next [] i d h = absurd (omega (arith, h))
types_next (f ∷ fs) zero d h = refl
types_next (f ∷ fs) (suc i) d h = ap (λ (l : List TypeId). f.now.part ∷ l) (types_next fs i d (omega (arith, h)))
