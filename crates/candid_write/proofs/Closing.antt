-- Each type with parts that a header names has a place in its order.
use Rattle.std.proofs.Common.{◌≡◌, ℕ, zero, suc, ◌+◌, ◌<◌, ◌⊎◌, inl, inr, Bool, true, false, cond, not, nat_eq, nat_lt, List, [], ◌∷◌, ◌++◌, length, map, Option, Some, None, slice_get, refl, sym, ap, ◌∙◌, subst, arith}
use Rattle.std.specs.Cmp.{unsigned_Decides}
use Rattle.std.specs.List.{position, position_or_len}
use Rattle.std.proofs.lemmas.Bool.{lt-ltb}
use Rattle.mo_types.specs.declared.wire.Entry.{Entry}
use Rattle.mo_types.specs.declared.wire.Method.{Method}
use Rattle.mo_types.specs.declared.wire.Wire.{Wire}
use Rattle.mo_types.specs.declared.wire.Wire.TheVariants.{Simple, Record, Variant, Func, Service}
use Rattle.mo_types.specs.Sub.{Each}
use Rattle.mo_types.specs.Wire.{SameWire}
use Rattle.mo_types.specs.Header.{IsSimple, IsKnown, Visits, Done, Skip, Old, New, parts_of}
use Rattle.candid_types.specs.Shapes.{shape_at}
use Rattle.candid_write.specs.declared.places.Table.{Table}
use Rattle.candid_write.specs.Classes.{class_at}
use Rattle.candid_write.specs.Appends.{simple_of}
use Rattle.candid_write.specs.Order.{IsReady, IsClosed, IsComplete, IsPlaced, Visited}

-- ---- lists

pub each_of : {X Y : Type 0} (f : X → Y) (P : Y → Type 0) (xs : List X) → Each P (map f xs) → Each (λ x. P (f x)) xs
each_of f P [] e = tt
each_of f P (x ∷ xs) e = (e.0, each_of f P xs e.1)

pub each_front : {X : Type 0} (P : X → Type 0) (xs ys : List X) → Each P (xs ++ ys) → Each P xs
each_front P [] ys e = tt
each_front P (x ∷ xs) ys e = (e.0, each_front P xs ys e.1)

pub each_back : {X : Type 0} (P : X → Type 0) (xs ys : List X) → Each P (xs ++ ys) → Each P ys
each_back P [] ys e = e
each_back P (x ∷ xs) ys e = each_back P xs ys e.1

each_push : {X : Type 0} (P : X → Type 0) (xs : List X) (y : X) → Each P xs → P y → Each P (xs ++ y ∷ [])
each_push P [] y e h = (h, tt)
each_push P (x ∷ xs) y e h = (e.0, each_push P xs y e.1 h)

slice_get_front : (xs ys : List ℕ) (i m : ℕ) → slice_get xs i ≡ Some m → slice_get (xs ++ ys) i ≡ Some m
slice_get_front [] ys zero m h = cc
slice_get_front [] ys (suc i) m h = cc
slice_get_front (x ∷ xs) ys zero m h = h
slice_get_front (x ∷ xs) ys (suc i) m h = slice_get_front xs ys i m h

slice_get_last : (xs : List ℕ) (y : ℕ) → slice_get (xs ++ y ∷ []) (length xs) ≡ Some y
slice_get_last [] y = refl
slice_get_last (x ∷ xs) y = slice_get_last xs y

-- ---- visits

module _ (head : ℕ → Wire ℕ) (one : (n : ℕ) → SameWire head head n n) where
  abbrev Placed : List ℕ → ℕ → Type 0
  Placed order n = IsSimple (head n) ⊎ IsKnown head order n

  abbrev Closed : List ℕ → ℕ → Type 0
  Closed order n = (IsSimple (head n) → ⊥) × Each (Placed order) (parts_of (head n))

  known_more : (order : List ℕ) (t n : ℕ) → IsKnown head order n → IsKnown head (order ++ t ∷ []) n
  known_more order t n k = (k.0, record { other = k.1.other; there = slice_get_front order (t ∷ []) k.0 k.1.other k.1.there; same = k.1.same })

  known_last : (order : List ℕ) (t : ℕ) → IsKnown head (order ++ t ∷ []) t
  known_last order t = (length order, record { other = t; there = slice_get_last order t; same = one t })

  -- what is known stays known
  stays : (n : ℕ) → {order ts out : List ℕ} → Visits head order ts out → IsKnown head order n → IsKnown head out n
  stays n Done k = k
  stays n (Skip t s v) k = stays n v k
  stays n (Old t p v) k = stays n v k
  stays n (New {order = order} t s p v) k = stays n v (known_more order t n k)

  -- what is visited is placed
  visited : {order ts out : List ℕ} → Visits head order ts out → Each (Placed out) ts
  visited Done = tt
  visited (Skip t s v) = (inl s, visited v)
  visited (Old t p v) = (inr (stays t v p), visited v)
  visited (New {order = order} {ts = ts} {out = out} t s p v) = (inr (stays t v (known_last order t)), each_back (Placed out) (parts_of (head t)) ts (visited v))

  -- and so are the parts of the types of the order
  closed : {order ts out : List ℕ} → Visits head order ts out → Each (Closed out) order → Each (Closed out) out
  closed Done e = e
  closed (Skip t s v) e = closed v e
  closed (Old t p v) e = closed v e
  closed (New {order = order} {ts = ts} {out = out} t s p v) e = closed v (each_push (Closed out) order t e (s, each_front (Placed out) (parts_of (head t)) ts (visited v)))

-- ---- tables

module _ (t : Table) where
  pub all_placed : (shapes : List (Wire ℕ)) (roots : List ℕ) → Visited shapes roots t → Each (IsPlaced t) roots × IsComplete t
  all_placed shapes roots v =
      let one : (n : ℕ) → SameWire (shape_at t.shapes) (shape_at t.shapes) n n = λ n. v.ready.classes.same n n refl in
      let w : Visits (shape_at t.shapes) [] roots t.order.items = subst (λ l. Visits (shape_at l) [] roots t.order.items) (sym v.shapes) v.visits in
      (visited (shape_at t.shapes) one w, record { ready = v.ready; closed = closed (shape_at t.shapes) one w tt })

position_less : (p : ℕ → Bool) (xs : List ℕ) (i x : ℕ) → slice_get xs i ≡ Some x → p x ≡ true → position_or_len p xs < length xs
position_less p [] zero x s e = cc
position_less p [] (suc i) x s e = cc
position_less p (y ∷ ys) i x s e = by (p y) refl i s (λ j f. position_less p ys j x f e)
  where
    by : (b : Bool) → p y ≡ b → (i : ℕ) → slice_get (y ∷ ys) i ≡ Some x → ((j : ℕ) → slice_get ys j ≡ Some x → position_or_len p ys < length ys) → cond (not b) (1 + position_or_len p ys) 0 < suc (length ys)
    by true f i s k = omega arith
    by false f zero s k = let g : y ≡ x = cc in let h : p y ≡ true = ap p g ∙ e in cc
    by false f (suc i) s k = let h : position_or_len p ys < length ys = k i s in omega (arith, h)

position_some : (p : ℕ → Bool) (xs : List ℕ) → position_or_len p xs < length xs → position p xs ≡ None → ⊥
position_some p xs h e = let l : nat_lt (position_or_len p xs) (length xs) ≡ true = lt-ltb (position_or_len p xs) (length xs) h in cc

slice_get_mapped : (f : ℕ → ℕ) (xs : List ℕ) (i m : ℕ) → slice_get xs i ≡ Some m → slice_get (map f xs) i ≡ Some (f m)
slice_get_mapped f [] zero m h = cc
slice_get_mapped f [] (suc i) m h = cc
slice_get_mapped f (x ∷ xs) zero m h = let e : x ≡ m = cc in ap (λ z. Some (f z)) e
slice_get_mapped f (x ∷ xs) (suc i) m h = slice_get_mapped f xs i m h

-- what is known has a place
pub has_place : (t : Table) (n c : ℕ) (o : Option ℕ) → IsReady t → c ≡ class_at t.classes.items n → o ≡ position (nat_eq c) t.seen.keys → IsKnown (shape_at t.shapes) t.order.items n → o ≡ None → ⊥
has_place t n c o r e f k g =
    let same : class_at t.classes.items k.1.other ≡ c = r.classes.one k.1.other n k.1.same ∙ sym e in
    let there = slice_get_mapped (class_at t.classes.items) t.order.items k.0 k.1.other k.1.there in
    let less = position_less (nat_eq c) (map (class_at t.classes.items) t.order.items) k.0 (class_at t.classes.items k.1.other) there ((unsigned_Decides c (class_at t.classes.items k.1.other)).1 (sym same)) in
    position_some (nat_eq c) (map (class_at t.classes.items) t.order.items) less (ap (position (nat_eq c)) (sym r.seen) ∙ sym f ∙ g)

-- of what is placed and has parts
pub known_if : (t : Table) (n : ℕ) → IsPlaced t n → None ≡ simple_of (shape_at t.shapes n) → IsKnown (shape_at t.shapes) t.order.items n
known_if t n (inr k) e = k
known_if t n (inl s) e = absurd (by (shape_at t.shapes n) s e)
  where
    by : (w : Wire ℕ) → IsSimple w → None ≡ simple_of w → ⊥
    by (Simple p) s e = cc
    by w s e = s

-- the parts of a head
module _ (t : Table) (w : Wire ℕ) (c : IsClosed t w) where
  parts_placed : (v : Wire ℕ) → w ≡ v → Each (IsPlaced t) (parts_of v)
  parts_placed v e = subst (λ u. Each (IsPlaced t) (parts_of u)) e c.1

  pub fields_placed : (es l : List (Entry ℕ)) → w ≡ Record es → l ≡ es → Each (λ e. IsPlaced t e.part) l
  fields_placed es l e f = subst (λ k. Each (λ e. IsPlaced t e.part) k) (sym f) (each_of (λ (e : Entry ℕ). e.part) (IsPlaced t) es (parts_placed (Record es) e))

  pub tags_placed : (es l : List (Entry ℕ)) → w ≡ Variant es → l ≡ es → Each (λ e. IsPlaced t e.part) l
  tags_placed es l e f = subst (λ k. Each (λ e. IsPlaced t e.part) k) (sym f) (each_of (λ (e : Entry ℕ). e.part) (IsPlaced t) es (parts_placed (Variant es) e))

  pub methods_placed : (ms l : List (Method ℕ)) → w ≡ Service ms → l ≡ ms → Each (λ m. IsPlaced t m.part) l
  methods_placed ms l e f = subst (λ k. Each (λ m. IsPlaced t m.part) k) (sym f) (each_of (λ (m : Method ℕ). m.part) (IsPlaced t) ms (parts_placed (Service ms) e))

  pub parameters_placed : (ps rs ns l : List ℕ) → w ≡ Func ps rs ns → l ≡ ps → Each (IsPlaced t) l
  parameters_placed ps rs ns l e f = subst (λ k. Each (IsPlaced t) k) (sym f) (each_front (IsPlaced t) ps rs (parts_placed (Func ps rs ns) e))

  pub results_placed : (ps rs ns l : List ℕ) → w ≡ Func ps rs ns → l ≡ rs → Each (IsPlaced t) l
  results_placed ps rs ns l e f = subst (λ k. Each (IsPlaced t) k) (sym f) (each_back (IsPlaced t) ps rs (parts_placed (Func ps rs ns) e))
