-- Places in lists.
use Rattle.std.proofs.Common.{◌≡◌, inl, inr, ℕ, zero, suc, ◌<◌, List, [], ◌∷◌, ◌++◌, length, map, Some, slice_get, refl, ap, subst}
use Rattle.mo_types.specs.Graph.{Slot, node_of}
use Rattle.mo_types.specs.Sub.{AtSome, Each}
use Rattle.subtype_laws.specs.Reached.{Among}
use Rattle.typed_tree.specs.Instances.{types_in}
use Rattle.typed_tree.specs.OperationTypes.{Distinct}
use Rattle.typed_tree.specs.Types.{AllDefined}
use Rattle.met_types.proofs.Counted.{each_at}

pub without_end : {A : Type 0} (xs : List A) → xs ++ [] ≡ xs
without_end [] = refl
without_end (x ∷ xs) = ap (λ l. x ∷ l) (without_end xs)

pub each_among : {A : Type 0} (P : A → Type 0) (xs : List A) → Each P xs → (x : A) → Among x xs → P x
each_among P [] h x m = absurd m
each_among P (y ∷ xs) h x (inl e) = subst P e h.0
each_among P (y ∷ xs) h x (inr m) = each_among P xs h.1 x m

pub among_mapped : {A B : Type 0} (f : A → B) (xs : List A) (u : B) → Among u (map f xs) → (x : A) × Among x xs × (f x ≡ u)
among_mapped f [] u m = absurd m
among_mapped f (x ∷ xs) u (inl e) = (x, inl refl, e)
among_mapped f (x ∷ xs) u (inr m) = let r = among_mapped f xs u m in (r.0, inr r.1, r.2)

-- in a list whose items differ each has one place
pub one_place : {A : Type 0} (xs : List A) → Distinct xs → (i j : ℕ) (x : A) → slice_get xs i ≡ Some x → slice_get xs j ≡ Some x → i ≡ j
one_place [] d i j x e f = cc
one_place (y ∷ xs) d zero zero x e f = refl
one_place (y ∷ xs) d zero (suc j) x e f =
    let g : Some y ≡ Some x = e in
    let k : y ≡ x = cc in
    absurd (each_at (λ z. y ≡ z → ⊥) xs j x d.0 f k)
one_place (y ∷ xs) d (suc i) zero x e f =
    let g : Some y ≡ Some x = f in
    let k : y ≡ x = cc in
    absurd (each_at (λ z. y ≡ z → ⊥) xs i x d.0 e k)
one_place (y ∷ xs) d (suc i) (suc j) x e f = ap suc (one_place xs d.1 i j x e f)

-- ---- slots that are defined

abbrev pub IsDefined : ℕ → Slot → Type 0
IsDefined n s = AtSome (node_of s) (λ y. Each (λ t. t.index < n) (types_in y))

pub all_defined : (types slots : List Slot) → ((i : ℕ) (s : Slot) → slice_get slots i ≡ Some s → IsDefined (length types) s) → AllDefined types slots
all_defined types [] h = tt
all_defined types (s ∷ slots) h = (h 0 s refl, all_defined types slots (λ i. h (suc i)))

pub defined_at : (types slots : List Slot) → AllDefined types slots → (i : ℕ) (s : Slot) → slice_get slots i ≡ Some s → IsDefined (length types) s
defined_at types [] h i s e = cc
defined_at types (x ∷ slots) h zero s e = let g : Some x ≡ Some s = e in let k : x ≡ s = cc in subst (λ z. IsDefined (length types) z) k h.0
defined_at types (x ∷ slots) h (suc i) s e = defined_at types slots h.1 i s e
