-- The heads of a table.
use Rattle.std.proofs.Common.{◌≡◌, ℕ, zero, suc, ◌+◌, ◌-◌, ◌<◌, ◌≤◌, List, [], ◌∷◌, ◌++◌, length, take, map, Option, Some, None, slice_get, get_or, refl, sym, ap, ◌∙◌, arith, length-append, inl, inr, ◌⊎◌, append_assoc}
use Rattle.std.specs.Option.{option_map}
use Rattle.std.proofs.lemmas.List.{map_push, take_more}
use Rattle.std.proofs.lemmas.Option.{slice_get-map, slice_get-get_or}
use Rattle.std.proofs.lemmas.Bool.{cases_lt}
use Rattle.mo_types.specs.declared.node.TypeId.{TypeId}
use Rattle.mo_types.specs.declared.wire.Plain.{Plain}
use Rattle.mo_types.specs.declared.wire.Plain.TheVariants as plain
use Rattle.mo_types.specs.declared.wire.Wire.{Wire}
use Rattle.mo_types.specs.declared.wire.Wire.TheVariants.{Simple}
use Rattle.mo_types.specs.declared.wire.Ref.{Ref}
use Rattle.mo_types.specs.declared.wire.Ref.TheVariants.{Of}
use Rattle.mo_types.specs.Graph.{Slot, Open, node_of, node_of_slot, node_or_bottom, head_at}
use Rattle.mo_types.specs.declared.wire.Entry.{Entry}
use Rattle.mo_types.specs.Wire.{numbered, map_entry, wire, wire_of_node, map_wire}
use Rattle.candid_types.specs.Shapes.{plains, ref_by, ref_of, or_empty, shape_at, IsTableOf}
use Rattle.candid_types.proofs.NumberLemmas.{ref_of_past}

module _ (slots : List Slot) where
  -- the head of what stands in a graph
  abbrev pub slot_wire : Slot → Wire (Ref TypeId)
  slot_wire s = wire_of_node (head_at slots) (node_or_bottom (node_of s))

  abbrev pub plain_wires : List (Wire (Ref TypeId))
  plain_wires = map Simple plains

  abbrev wire_or_empty : Option (Wire (Ref TypeId)) → Wire (Ref TypeId)
  wire_or_empty None = Simple plain.Empty
  wire_or_empty (Some w) = w

  map_or_empty : (o : Option (Wire ℕ)) → map_wire ref_of (or_empty o) ≡ wire_or_empty (option_map (map_wire ref_of) o)
  map_or_empty None = refl
  map_or_empty (Some w) = refl

  front_at : {X : Type 0} (xs ys : List X) (n : ℕ) → n < length xs → slice_get (xs ++ ys) n ≡ slice_get xs n
  front_at [] ys n h = absurd (omega arith)
  front_at (x ∷ xs) ys zero h = refl
  front_at (x ∷ xs) ys (suc n) h = front_at xs ys n (omega arith)

  back_at : {X : Type 0} (xs ys : List X) (n : ℕ) → slice_get (xs ++ ys) (length xs + n) ≡ slice_get ys n
  back_at [] ys n = ap (slice_get ys) (let e : 0 + n ≡ n = omega arith in e)
  back_at (x ∷ xs) ys n = ap (slice_get (x ∷ (xs ++ ys))) (let e : suc (length xs) + n ≡ suc (length xs + n) = omega arith in e) ∙ back_at xs ys n

  length_map : {X Y : Type 0} (f : X → Y) (xs : List X) → length (map f xs) ≡ length xs
  length_map f [] = refl
  length_map f (x ∷ xs) = ap suc (length_map f xs)

  module _ (heads : List (Wire ℕ)) (filled : map (map_wire ref_of) heads ≡ plain_wires ++ map slot_wire slots) where
    head_is : (n : ℕ) → map_wire ref_of (shape_at heads n) ≡ wire_or_empty (slice_get (plain_wires ++ map slot_wire slots) n)
    head_is n = map_or_empty (slice_get heads n) ∙ ap wire_or_empty (sym (slice_get-map (map_wire ref_of) heads n)) ∙ ap (λ l. wire_or_empty (slice_get l n)) filled

    plain_head : (n : ℕ) (o : Option Plain) → slice_get plains n ≡ o → n < 18 → wire (head_at slots) (ref_by o n) ≡ wire_or_empty (slice_get plain_wires n)
    plain_head n (Some p) e h = sym (ap wire_or_empty (slice_get-map Simple plains n ∙ ap (option_map Simple) e))
    plain_head n None e h = absurd (none_past plains n e h) where
      none_past : (ps : List Plain) (n : ℕ) → slice_get ps n ≡ None → n < length ps → ⊥
      none_past [] n e h = omega arith
      none_past (p ∷ ps) zero e h = cc
      none_past (p ∷ ps) (suc n) e h = none_past ps n e (omega arith)

    below : (n : ℕ) → n < 18 → wire (head_at slots) (ref_of n) ≡ map_wire ref_of (shape_at heads n)
    unfolding ref_of
    below n h = plain_head n (slice_get plains n) refl h ∙ sym (head_is n ∙ ap wire_or_empty (front_at plain_wires (map slot_wire slots) n h))

    slot_head : (i : ℕ) (o : Option Slot) → slice_get slots i ≡ o → wire_of_node (head_at slots) (node_or_bottom (node_of_slot o)) ≡ wire_or_empty (option_map slot_wire o)
    slot_head i None e = refl
    slot_head i (Some s) e = refl

    above : (n : ℕ) → 18 ≤ n → wire (head_at slots) (ref_of n) ≡ map_wire ref_of (shape_at heads n)
    above n h =
        let i : 18 + (n - 18) ≡ n = omega arith in
        let back : slice_get (plain_wires ++ map slot_wire slots) n ≡ option_map slot_wire (slice_get slots (n - 18)) =
        ap (slice_get (plain_wires ++ map slot_wire slots)) (sym i) ∙ back_at plain_wires (map slot_wire slots) (n - 18) ∙ slice_get-map slot_wire slots (n - 18) in
        ap (wire (head_at slots)) (ref_of_past n h) ∙ slot_head (n - 18) (slice_get slots (n - 18)) refl ∙ sym (head_is n ∙ ap wire_or_empty back)

    at_number : (n : ℕ) → (n < 18) ⊎ (18 ≤ n) → wire (head_at slots) (ref_of n) ≡ map_wire ref_of (shape_at heads n)
    at_number n (inl h) = below n h
    at_number n (inr h) = above n h

    pub is_table : IsTableOf slots heads
    is_table = record {
      heads = λ n. at_number n (cases_lt n 18);
      count =
          let e : length (map (map_wire ref_of) heads) ≡ length (plain_wires ++ map slot_wire slots) = ap length filled in
          let f : length (plain_wires ++ map slot_wire slots) ≡ length plain_wires + length (map slot_wire slots) = length-append plain_wires (map slot_wire slots) in
          let g : length (map slot_wire slots) ≡ length slots = length_map slot_wire slots in
          let k : length (map (map_wire ref_of) heads) ≡ length heads = length_map (map_wire ref_of) heads in
          omega arith;
    }

  -- the head of one more type
  pub slot_more : (heads : List (Wire ℕ)) (i : ℕ) (w : Wire ℕ) → i < length slots → map (map_wire ref_of) heads ≡ plain_wires ++ map slot_wire (take i slots) →
      map_wire ref_of w ≡ wire_of_node (head_at slots) (node_or_bottom (node_of_slot (slice_get slots i))) → map (map_wire ref_of) (heads ++ w ∷ []) ≡ plain_wires ++ map slot_wire (take (i + 1) slots)
  slot_more heads i w l h g =
      let s : Slot = get_or slots i Open in
      let e : map_wire ref_of w ≡ slot_wire s = g ∙ ap (λ o. wire_of_node (head_at slots) (node_or_bottom (node_of_slot o))) (slice_get-get_or slots i Open l) in
      let t : map slot_wire (take (i + 1) slots) ≡ map slot_wire (take i slots) ++ slot_wire s ∷ [] = ap (map slot_wire) (take_more slots i Open l) ∙ map_push slot_wire (take i slots) s in
      map_push (map_wire ref_of) heads w ∙ ap (λ l. l ++ map_wire ref_of w ∷ []) h ∙ ap (λ v. (plain_wires ++ map slot_wire (take i slots)) ++ v ∷ []) e ∙ append_assoc plain_wires (map slot_wire (take i slots)) (slot_wire s ∷ []) ∙ ap (λ l. plain_wires ++ l) (sym t)

length_front : (i : ℕ) (xs : List TypeId) → i ≤ length xs → length (take i xs) ≡ i
length_front zero xs h = refl
length_front (suc i) [] h = absurd (omega arith)
length_front (suc i) (x ∷ xs) h = ap suc (length_front i xs (omega arith))

numbered_push : (n : ℕ) (ts : List TypeId) (t : TypeId) → numbered n (ts ++ t ∷ []) ≡ numbered n ts ++ record { id = n + length ts; part = Of t } ∷ []
numbered_push n [] t = let e : n ≡ n + 0 = omega arith in ap (λ m. record { id = m; part = Of t } ∷ []) e
numbered_push n (u ∷ ts) t = let e : n + 1 + length ts ≡ n + suc (length ts) = omega arith in ap (λ l. record { id = n; part = Of u } ∷ l) (numbered_push (n + 1) ts t ∙ ap (λ m. numbered (n + 1) ts ++ record { id = m; part = Of t } ∷ []) e)

-- one more part of a tuple
pub tuple_more : (parts : List TypeId) (i : ℕ) (made : List (Entry ℕ)) (d : TypeId) (n : ℕ) → i < length parts → map (map_entry ref_of) made ≡ numbered 0 (take i parts) → ref_of n ≡ Of (get_or parts i d) →
    map (map_entry ref_of) (made ++ record { id = i; part = n } ∷ []) ≡ numbered 0 (take (i + 1) parts)
tuple_more parts i made d n l h g =
    let t : TypeId = get_or parts i d in
    let e : take (i + 1) parts ≡ take i parts ++ t ∷ [] = take_more parts i d l in
    let c : length (take i parts) ≡ i = length_front i parts (omega arith) in
    let z : 0 + length (take i parts) ≡ i = omega arith in
    map_push (map_entry ref_of) made (record { id = i; part = n }) ∙ ap (λ l. l ++ record { id = i; part = ref_of n } ∷ []) h ∙ ap (λ r. numbered 0 (take i parts) ++ record { id = i; part = r } ∷ []) g
    ∙ sym (ap (numbered 0) e ∙ numbered_push 0 (take i parts) t ∙ ap (λ m. numbered 0 (take i parts) ++ record { id = m; part = Of t } ∷ []) z)
