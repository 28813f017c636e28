-- A visit of a graph's types meets no more types than the graph has.
use Rattle.std.proofs.Common.{◌≡◌, ℕ, zero, suc, ◌<◌, ◌≤◌, ◌||◌, Bool, true, false, List, [], ◌∷◌, length, map, nat_eq, Some, None, slice_get, refl, sym, ap, ◌∙◌, subst, arith}
use Rattle.std.specs.List.{AllByRecursion, IsDistinct, list_any}
use Rattle.std.proofs.lemmas.Bool.{eqb-true}
use Rattle.std.proofs.lemmas.List.{length-map}
use Rattle.std.proofs.lemmas.Map.Steps.{length-le_from_distinct_below}
use Rattle.mo_types.specs.declared.node.TypeId.{TypeId}
use Rattle.mo_types.specs.declared.wire.Wire.{Wire}
use Rattle.mo_types.specs.declared.wire.Ref.{Ref}
use Rattle.mo_types.specs.declared.wire.Ref.TheVariants.{Of, Just}
use Rattle.mo_types.specs.Graph.{Slot, node_or_bottom, node_of_slot, head_at}
use Rattle.mo_types.specs.Sub.{Each}
use Rattle.mo_types.specs.Wire.{refs, wire, wire_of_node, SameWire}
use Rattle.mo_types.specs.Header.{IsSimple, Visits}
use Rattle.candid_laws.specs.Sound.{IsWellLabelled, Reached, AreSound}
use Rattle.candid_laws.proofs.Same.{same_refl}
use Rattle.candid_laws.proofs.Unique.{visit_apart}
use Rattle.candid_laws.proofs.Visiting.{IsPlaced, each_at, visited}

-- ---- numbers that differ

Once : List ℕ → Type 0
Once xs = (i j x : ℕ) → slice_get xs i ≡ Some x → slice_get xs j ≡ Some x → i ≡ j

all_at : (P : ℕ → Type 0) (xs : List ℕ) → ((i x : ℕ) → slice_get xs i ≡ Some x → P x) → AllByRecursion P xs
all_at P [] h = tt
all_at P (x ∷ xs) h = (h 0 x refl, all_at P xs (λ i y e. h (suc i) y e))

distinct : (xs : List ℕ) → Once xs → IsDistinct nat_eq xs
unfolding Once IsDistinct
distinct [] h = tt
distinct (x ∷ xs) h = (all_at (λ y. nat_eq x y ≡ false) xs other, distinct xs (λ i j y e f. let g : suc i ≡ suc j = h (suc i) (suc j) y e f in omega arith))
  where
    other : (i y : ℕ) → slice_get xs i ≡ Some y → nat_eq x y ≡ false
    other i y e = by (nat_eq x y) refl where
      by : (b : Bool) → nat_eq x y ≡ b → b ≡ false
      by false f = refl
      by true f = absurd (let g : 0 ≡ suc i = h 0 (suc i) y (ap Some (eqb-true x y f)) e in omega arith)

any_below : (n : ℕ) (xs : List ℕ) → Each (λ x. x < n) xs → (q : ℕ) → list_any (nat_eq q) xs ≡ true → q < n
any_below n [] h q e = absurd (let f : false ≡ true = e in cc)
any_below n (x ∷ xs) h q e = by (nat_eq q x) refl e (any_below n xs h.1 q) where
  by : (b : Bool) → nat_eq q x ≡ b → (b || list_any (nat_eq q) xs) ≡ true → (list_any (nat_eq q) xs ≡ true → q < n) → q < n
  by true f g k = subst (λ (z : ℕ). z < n) (sym (eqb-true q x f)) h.0
  by false f g k = k g

-- ---- the types of a graph

index : Ref TypeId → ℕ
index (Of t) = t.index
index (Just p) = 0

mapped : (rs : List (Ref TypeId)) (i x : ℕ) → slice_get (map index rs) i ≡ Some x → (r : Ref TypeId) × (slice_get rs i ≡ Some r) × (index r ≡ x)
mapped [] i x e = absurd (let f : None ≡ Some x = e in cc)
mapped (r ∷ rs) zero x e = let f : Some (index r) ≡ Some x = e in let g : index r ≡ x = cc in (r, refl, g)
mapped (r ∷ rs) (suc i) x e = mapped rs i x e

module _ (slots : List Slot) where
  abbrev Head : Ref TypeId → Wire (Ref TypeId)
  Head = wire (head_at slots)

  in_graph : (ss : List Slot) (i : ℕ) → (IsSimple (wire_of_node (head_at slots) (node_or_bottom (node_of_slot (slice_get ss i)))) → ⊥) → i < length ss
  in_graph [] i h = absurd (h tt)
  in_graph (s ∷ ss) zero h = omega arith
  in_graph (s ∷ ss) (suc i) h = let k : i < length ss = in_graph ss i h in omega arith

  below : (r : Ref TypeId) → (IsSimple (Head r) → ⊥) → index r < length slots
  unfolding index
  below (Of t) h = in_graph slots t.index h
  below (Just p) h = absurd (h tt)

  all_below : (roots order : List (Ref TypeId)) → Each (IsPlaced Head roots) order → Each (λ i. i < length slots) (map index order)
  all_below roots [] h = tt
  all_below roots (r ∷ rs) h = (below r h.0.0, all_below roots rs h.1)

  same_index : (r s : Ref TypeId) → (IsSimple (Head r) → ⊥) → (IsSimple (Head s) → ⊥) → index r ≡ index s → r ≡ s
  unfolding index
  same_index (Of t) (Of u) h k e = ap (λ (i : ℕ). Of (record { index = i })) e
  same_index (Of t) (Just p) h k e = absurd (k tt)
  same_index (Just p) s h k e = absurd (h tt)

  once : (roots order : List (Ref TypeId)) → Visits Head [] roots order → Once (map index order)
  unfolding Once
  once roots order v i j x e f =
      let a = mapped order i x e in
      let b = mapped order j x f in
      let placed = visited Head roots order v in
      let same : a.0 ≡ b.0 = same_index a.0 b.0 (each_at (IsPlaced Head roots) order i a.0 placed a.1).0 (each_at (IsPlaced Head roots) order j b.0 placed b.1).0 (a.2 ∙ sym b.2) in
      visit_apart Head roots order v i j a.0 b.0 a.1 b.1 (subst (λ (r : Ref TypeId). SameWire Head Head a.0 r) same (same_refl Head a.0))

  pub few_entries : (roots order : List (Ref TypeId)) → Visits Head [] roots order → length order ≤ length slots
  few_entries roots order v =
      let few : length (map index order) ≤ length slots = length-le_from_distinct_below (map index order) (length slots) (distinct (map index order) (once roots order v)) (any_below (length slots) (map index order) (all_below roots order (visited Head roots order v))) in
      let count : length (map index order) ≡ length order = length-map order index in
      omega arith

  pub sound_graph : (types : List TypeId) → length slots ≤ 4096 → ((t : TypeId) → Reached Head (refs types) (Of t) → IsWellLabelled (head_at slots) (head_at slots t)) → AreSound (head_at slots) types
  sound_graph types few sound = record { sound = sound; few = λ order v. let h : length order ≤ length slots = few_entries (refs types) order v in omega arith }
