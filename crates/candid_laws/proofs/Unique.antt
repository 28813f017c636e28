-- There is one canonical header of types, and one value to a message that was written.
use Rattle.std.proofs.Common.{◌≡◌, ℕ, zero, suc, List, [], ◌∷◌, ◌++◌, length, map, Some, None, slice_get, ◌⊎◌, inl, inr, refl, sym, ap, ◌∙◌, subst, pos}
use Rattle.std.proofs.lemmas.List.{append_cancel_left}
use Rattle.mo_types.specs.declared.datum.Datum.{Datum}
use Rattle.mo_types.specs.declared.datum.Datum.TheVariants as part
use Rattle.mo_types.specs.declared.node.Node.{Node}
use Rattle.mo_types.specs.declared.wire.Wire.{Wire}
use Rattle.mo_types.specs.declared.wire.Wire.TheVariants.{Simple, Opt, Vec, Record, Variant, Func, Service}
use Rattle.mo_types.specs.Sub.{Each}
use Rattle.mo_types.specs.Wire.{refs, wire, SameWire}
use Rattle.mo_types.specs.Form.{form}
use Rattle.mo_types.specs.Values.{Values, Nil, Value, HaveTypes}
use Rattle.mo_types.specs.Spelling.{shortest, Spell, AnyCount, wire_inside}
use Rattle.mo_types.specs.Header.{IsSimple, parts_of, IsAt, IsKnown, Visits, Done, Skip, Old, New, RefBy, IsRef, IsHeader, IsCanonical}
use Rattle.mo_types.specs.Code.{Code}
use Rattle.candid_laws.proofs.Same.{same_sym, same_trans, same_heads}
use Rattle.candid_laws.proofs.Padded.{Allows, AllAllow, short_spell}
use Rattle.candid_laws.proofs.Headers.{simple_from}
use Rattle.candid_laws.proofs.Spelling.{IsOne, one_signed, header_one}
use Rattle.candid_laws.proofs.Visiting.{each_join, each_at}
use Rattle.candid_laws.proofs.Once.{spelled_once}

module _ {B : Type 0} (head : B → Wire B) where
  abbrev pub HasParts : B → Type 0
  HasParts b = IsSimple (head b) → ⊥

  known_parts : (order : List B) (t : B) → Each HasParts order → IsSimple (head t) → IsKnown head order t → ⊥
  known_parts order t h i k = each_at HasParts order k.0 k.1.other h k.1.there (simple_from head head (head k.1.other) (head t) (same_heads head head k.1.other t k.1.same) i)

  one_visit : (order todo out other : List B) → Each HasParts order → Visits head order todo out → Visits head order todo other → out ≡ other
  one_visit order [] out other h Done Done = refl
  one_visit order (t ∷ ts) out other h (Skip _ i v) (Skip _ j w) = one_visit order ts out other h v w
  one_visit order (t ∷ ts) out other h (Skip _ i v) (Old _ k w) = absurd (known_parts order t h i k)
  one_visit order (t ∷ ts) out other h (Skip _ i v) (New _ j k w) = absurd (j i)
  one_visit order (t ∷ ts) out other h (Old _ k v) (Skip _ i w) = absurd (known_parts order t h i k)
  one_visit order (t ∷ ts) out other h (Old _ k v) (Old _ l w) = one_visit order ts out other h v w
  one_visit order (t ∷ ts) out other h (Old _ k v) (New _ i l w) = absurd (l k)
  one_visit order (t ∷ ts) out other h (New _ j k v) (Skip _ i w) = absurd (j i)
  one_visit order (t ∷ ts) out other h (New _ j k v) (Old _ l w) = absurd (k l)
  one_visit order (t ∷ ts) out other h (New _ i k v) (New _ j l w) = one_visit (order ++ t ∷ []) (parts_of (head t) ++ ts) out other (each_join HasParts order (t ∷ []) h (i, tt)) v w

  -- the order of first visit is one
  pub one_order : (roots out other : List B) → Visits head [] roots out → Visits head [] roots other → out ≡ other
  one_order roots out other v w = one_visit [] roots out other tt v w

  -- ---- each type once

  abbrev pub IsApart : List B → Type 0
  IsApart order = (i j : ℕ) (a b : B) → slice_get order i ≡ Some a → slice_get order j ≡ Some b → SameWire head head a b → i ≡ j

  pushed : (order : List B) (t a : B) (i : ℕ) → slice_get (order ++ t ∷ []) i ≡ Some a → (slice_get order i ≡ Some a) ⊎ ((i ≡ length order) × (t ≡ a))
  pushed [] t a zero e = let f : Some t ≡ Some a = e in let g : t ≡ a = cc in inr (refl, g)
  pushed [] t a (suc i) e = absurd (let f : None ≡ Some a = e in cc)
  pushed (b ∷ order) t a zero e = inl e
  pushed (b ∷ order) t a (suc i) e = elim (pushed order t a i e) [ inl h ↦ inl h | inr h ↦ inr (ap suc h.0, h.1) ]

  apart_more : (order : List B) (t : B) → IsApart order → (IsKnown head order t → ⊥) → IsApart (order ++ t ∷ [])
  apart_more order t h n i j a b e f s = by (pushed order t a i e) (pushed order t b j f) where
    by : (slice_get order i ≡ Some a) ⊎ ((i ≡ length order) × (t ≡ a)) → (slice_get order j ≡ Some b) ⊎ ((j ≡ length order) × (t ≡ b)) → i ≡ j
    by (inl x) (inl y) = h i j a b x y s
    by (inl x) (inr y) = absurd (n (i, record { other = a; there = x; same = subst (λ (z : B). SameWire head head a z) (sym y.1) s }))
    by (inr x) (inl y) = absurd (n (j, record { other = b; there = y; same = same_sym head head t b (subst (λ (z : B). SameWire head head z b) (sym x.1) s) }))
    by (inr x) (inr y) = x.0 ∙ sym y.0

  apart : (order todo out : List B) → IsApart order → Visits head order todo out → IsApart out
  apart order todo out h Done = h
  apart order todo out h (Skip {ts = ts} t i v) = apart order ts out h v
  apart order todo out h (Old {ts = ts} t i v) = apart order ts out h v
  apart order todo out h (New {ts = ts} t i j v) = apart (order ++ t ∷ []) (parts_of (head t) ++ ts) out (apart_more order t h j) v

  none_apart : IsApart []
  none_apart i j a b e f s = absurd (let g : None ≡ Some a = e in cc)

  pub visit_apart : (roots out : List B) → Visits head [] roots out → IsApart out
  visit_apart roots out v = apart [] roots out none_apart v

  -- ---- headers

  at_one : (order : List B) → IsApart order → (t : B) (a b : List ℕ) → (i : ℕ) → IsAt head order t i → shortest.signed 33 a (pos i) → (j : ℕ) → IsAt head order t j → shortest.signed 33 b (pos j) → a ≡ b
  at_one order h t a b i x p j y q =
      let s = same_trans head head head x.other t y.other x.same (same_sym head head y.other t y.same) in
      let e : i ≡ j = h i j x.other y.other x.there y.there s in
      one_signed 33 (pos j) a b (subst (λ (n : ℕ). shortest.signed 33 a (pos n)) e p) q

  ref_one : (order : List B) → IsApart order → (t : B) (w : Wire B) → IsOne (RefBy head shortest order t w)
  ref_one order h t (Simple p) a b x y = x ∙ sym y
  ref_one order h t (Opt c) a b x y = at_one order h t a b x.0 x.1 x.2 y.0 y.1 y.2
  ref_one order h t (Vec c) a b x y = at_one order h t a b x.0 x.1 x.2 y.0 y.1 y.2
  ref_one order h t (Record c) a b x y = at_one order h t a b x.0 x.1 x.2 y.0 y.1 y.2
  ref_one order h t (Variant c) a b x y = at_one order h t a b x.0 x.1 x.2 y.0 y.1 y.2
  ref_one order h t (Func c d e) a b x y = at_one order h t a b x.0 x.1 x.2 y.0 y.1 y.2
  ref_one order h t (Service c) a b x y = at_one order h t a b x.0 x.1 x.2 y.0 y.1 y.2

  pub one_header : (args : List B) (a b : List ℕ) → IsCanonical head shortest args a → IsCanonical head shortest args b → a ≡ b
  one_header args a b h k =
      let e = one_order args h.order k.order h.visits k.visits in
      let moved = subst (λ (order : List B). IsHeader shortest (IsRef head shortest order) (map head order) args a) e h.header in
      header_one (IsRef head shortest k.order) (λ t. ref_one k.order (visit_apart args k.order k.visits) t (head t)) (map head k.order) args a b moved k.header

-- ---- messages

allow : {B : Type 0} (P : ℕ → B → Type 0) (w : Wire B) (p : Datum) → Allows P P w p
allow P (Vec b) (part.Many n) = λ h. h
allow P _ _ = tt

allow_all : {B : Type 0} (P : ℕ → B → Type 0) (head : B → Wire B) (ts : List B) (v : Values) → AllAllow P P head ts v
allow_all P head [] v = tt
allow_all P head (t ∷ ts) Nil = tt
allow_all P head (t ∷ ts) (Value p inner others) = (allow P (head t) p, allow_all P head (wire_inside (head t) p) inner, allow_all P head ts others)

pub one_written : {A : Type 0} (head : A → Node A) (ts : List A) (bytes : List ℕ) (v w : Values) → HaveTypes head ts v → HaveTypes head ts w → Code head ts v bytes → Code head ts w bytes → v ≡ w
one_written head ts bytes v w t u h k =
    let front : h.front ≡ k.front = one_header (wire head) (refs ts) h.front k.front h.first k.first in
    let back : h.back ≡ k.back = append_cancel_left k.front h.back k.back (ap (λ (l : List ℕ). l ++ h.back) (sym front) ∙ sym h.whole ∙ k.whole) in
    let long = λ (x : Values) (s : Spell shortest AnyCount (wire head) (refs ts) (form head ts x) k.back). short_spell AnyCount AnyCount (wire head) (refs ts) (form head ts x) k.back (allow_all AnyCount (wire head) (refs ts) (form head ts x)) s in
    spelled_once AnyCount head ts v w k.back t u (long v (subst (λ (l : List ℕ). Spell shortest AnyCount (wire head) (refs ts) (form head ts v) l) back h.second)) (long w k.second)
