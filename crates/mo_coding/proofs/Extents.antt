-- The number of reached types is counted.
use Rattle.std.proofs.Common.{◌≡◌, ℕ, zero, suc, inl, inr, true, List, [], ◌∷◌, ◌++◌, slice_get, refl, arith}
use Rattle.mo_types.specs.declared.node.TypeId.{TypeId}
use Rattle.mo_types.specs.Graph.{node_of, node_of_slot, node_or_bottom, head_at}
use Rattle.mo_types.specs.Layout.{layout, entries, same_id}
use Rattle.mo_types.specs.Same.{id_decides}
use Rattle.mo_meaning.specs.Coding.{Types, parts_of, Reaches, given, within, IsExtent}
use Rattle.mo_coding.specs.Extents.{has_id, all_parts, reached, extent}
use Rattle.mo_coding.proofs.Members.{Has, has_left, has_right, has_from, contains, Distinct, from_pairs, to_pairs, same_sum, sum_ones}
use Rattle.mo_coding.proofs.Truths.{or_either, or_left, or_right}
use Rattle.mo_coding.proofs.Walks.{Walk, walked, met, kept, closes, once}

pub id_known : (order : List TypeId) (t : TypeId) → has_id order t ≡ true → Has order t
id_known [] t e = cc
id_known (u ∷ us) t e = elim (or_either (same_id u t) (has_id us t) e) [ inl f ↦ inl ((id_decides u t).0 f) | inr f ↦ inr (id_known us t f) ]

pub known_id : (order : List TypeId) (t : TypeId) → Has order t → has_id order t ≡ true
known_id [] t h = absurd h
known_id (u ∷ us) t (inl e) = or_left (same_id u t) (has_id us t) ((id_decides u t).1 e)
known_id (u ∷ us) t (inr h) = or_right (same_id u t) (has_id us t) (known_id us t h)

-- each part of a head is a part of a node
slot_parts : (slots : Types) (i : ℕ) (x : TypeId) → Has (parts_of (node_or_bottom (node_of_slot (slice_get slots i)))) x → Has (all_parts slots) x
unfolding layout
slot_parts [] i x h = absurd h
slot_parts (s ∷ slots) zero x h = has_left (parts_of (node_or_bottom (node_of s))) (all_parts slots) x h
slot_parts (s ∷ slots) (suc i) x h = has_right (parts_of (node_or_bottom (node_of s))) (all_parts slots) x (slot_parts slots i x h)

module _ (slots : Types) (types : List TypeId) where
  abbrev parts : TypeId → List TypeId
  parts t = parts_of (head_at slots t)

  walk : Walk has_id parts [] types (reached slots types)
  walk = walked has_id parts (types ++ all_parts slots)
      (λ order t x e. known_id (order ++ t ∷ []) x (has_left order (t ∷ []) x (id_known order x e)))
      (λ order t. known_id (order ++ t ∷ []) t (has_right order (t ∷ []) t (inl refl)))
      (λ t x h. has_right types (all_parts slots) x (slot_parts slots t.index x h))
      types (λ x h. has_left types (all_parts slots) x h)

  reached_is : (t : TypeId) → Has (reached slots types) t → Reaches slots types t
  reached_is t h = met has_id parts (Reaches slots types) (λ u x r i. within u x r (contains (parts u) x i)) walk (λ x i. absurd i) (λ x i. given x (contains types x i)) t h

  is_reached : (t : TypeId) → Reaches slots types t → Has (reached slots types) t
  is_reached t (given _ c) = kept has_id parts id_known walk t (inr (has_from types t c))
  is_reached t (within u _ r c) = closes has_id parts id_known walk (λ s x i j. absurd i) u t (is_reached u r) (has_from (parts u) t c)

  reached_once : Distinct (reached slots types)
  reached_once = once has_id parts known_id walk tt

  pub extent_is : IsExtent slots types (extent slots types)
  extent_is = record {
    all = reached slots types;
    different = to_pairs (reached slots types) reached_once;
    reached = λ t. (λ c. reached_is t (has_from (reached slots types) t c), λ r. contains (reached slots types) t (is_reached t r));
    counted = refl;
  }

  pub extends : (n : ℕ) → IsExtent slots types n → extent slots types ≡ n
  extends n k =
      let d = from_pairs k.all k.different in
      let to : (x : TypeId) → Has (reached slots types) x → Has k.all x = λ x h. has_from k.all x ((k.reached x).1 (reached_is x h)) in
      let back : (x : TypeId) → Has k.all x → Has (reached slots types) x = λ x h. is_reached x ((k.reached x).0 (contains k.all x h)) in
      let e = same_sum (λ t. entries (head_at slots t)) (reached slots types) k.all reached_once d to back in
      let f = same_sum (λ t. 1) (reached slots types) k.all reached_once d to back in
      let g = sum_ones (reached slots types) in
      let h = sum_ones k.all in
      let c = k.counted in
      omega (arith, e, f, g, h, c)
