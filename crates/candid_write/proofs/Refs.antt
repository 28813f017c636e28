-- References of a header.
use Rattle.std.proofs.Common.{◌≡◌, ℕ, zero, suc, ◌<◌, List, [], ◌∷◌, ◌++◌, length, map, get_or, nat_eq, Option, Some, None, slice_get, IfSome, pos, refl, sym, ap, ◌∙◌, subst, arith}
use Rattle.std.specs.Cmp.{unsigned_Decides}
use Rattle.std.specs.List.{position}
use Rattle.std.proofs.lemmas.List.Quantifiers.{position-Some}
use Rattle.mo_types.specs.declared.wire.Plain.{Plain}
use Rattle.mo_types.specs.declared.wire.Wire.{Wire}
use Rattle.mo_types.specs.declared.wire.Wire.TheVariants.{Simple, Opt, Vec, Record, Variant, Func, Service}
use Rattle.mo_types.specs.Wire.{plain_code}
use Rattle.mo_types.specs.Spelling.{shortest}
use Rattle.mo_types.specs.Header.{IsByte, IsAt, RefBy}
use Rattle.candid_types.specs.Shapes.{shape_at}
use Rattle.candid_write.specs.declared.places.Table.{Table}
use Rattle.candid_write.specs.Classes.{class_at}
use Rattle.candid_write.specs.Order.{IsReady}
use Rattle.candid_write.specs.Appends.{Appends, IsRefIn, simple_of}
use Rattle.candid_write.proofs.Adds.{weaker}

module _ (head : ℕ → Wire ℕ) (order : List ℕ) (n : ℕ) where
  by_code : (w : Wire ℕ) (p : Plain) → simple_of w ≡ Some p → (b : List ℕ) → IsByte (plain_code p) b → RefBy head shortest order n w b
  by_code (Simple q) p e b h = let f : q ≡ p = cc in h ∙ ap (λ r. plain_code r ∷ []) (sym f)
  by_code (Opt a) p e b h = cc
  by_code (Vec a) p e b h = cc
  by_code (Record es) p e b h = cc
  by_code (Variant es) p e b h = cc
  by_code (Func ps rs ns) p e b h = cc
  by_code (Service ms) p e b h = cc

  by_place : (w : Wire ℕ) → simple_of w ≡ None → (i : ℕ) → IsAt head order n i → (b : List ℕ) → shortest.signed 33 b (pos i) → RefBy head shortest order n w b
  by_place (Simple q) e i a b h = cc
  by_place (Opt x) e i a b h = (i, a, h)
  by_place (Vec x) e i a b h = (i, a, h)
  by_place (Record es) e i a b h = (i, a, h)
  by_place (Variant es) e i a b h = (i, a, h)
  by_place (Func ps rs ns) e i a b h = (i, a, h)
  by_place (Service ms) e i a b h = (i, a, h)

pub ref_code : (t : Table) (n : ℕ) (p : Plain) (old new : List ℕ) → Some p ≡ simple_of (shape_at t.shapes n) → new ≡ old ++ plain_code p ∷ [] → Appends (λ b. IsRefIn t n b) old new
ref_code t n p old new e f = record { bytes = plain_code p ∷ []; whole = f; fits = by_code (shape_at t.shapes) t.order.items n (shape_at t.shapes n) p (sym e) (plain_code p ∷ []) refl }

pub ref_place : (t : Table) (n i : ℕ) (old new : List ℕ) → None ≡ simple_of (shape_at t.shapes n) → IsAt (shape_at t.shapes) t.order.items n i → Appends (λ b. shortest.signed 33 b (pos i)) old new → Appends (λ b. IsRefIn t n b) old new
ref_place t n i old new e a h = weaker (λ b g. by_place (shape_at t.shapes) t.order.items n (shape_at t.shapes n) (sym e) i a b g) h

at_map : (f : ℕ → ℕ) (xs : List ℕ) (i : ℕ) → i < length (map f xs) → (m : ℕ) × (slice_get xs i ≡ Some m) × (get_or (map f xs) i 0 ≡ f m)
at_map f [] i h = absurd (omega arith)
at_map f (x ∷ xs) zero h = (x, refl, refl)
at_map f (x ∷ xs) (suc i) h = at_map f xs i (omega arith)

pub is_at : (t : Table) (n c i : ℕ) → IsReady t → c ≡ class_at t.classes.items n → position (nat_eq c) t.seen.keys ≡ Some i → IsAt (shape_at t.shapes) t.order.items n i
is_at t n c i r e h =
    let p = position-Some (nat_eq c) (map (class_at t.classes.items) t.order.items) i 0 (subst (λ l. position (nat_eq c) l ≡ Some i) r.seen h) in
    let m = at_map (class_at t.classes.items) t.order.items i p.0 in
    let f : c ≡ get_or (map (class_at t.classes.items) t.order.items) i 0 = (unsigned_Decides c (get_or (map (class_at t.classes.items) t.order.items) i 0)).0 p.1 in
    record { other = m.0; there = m.1; same = r.classes.same m.0 n (sym m.2 ∙ sym f ∙ e) }

pub places : (t : Table) (n c : ℕ) (o : Option ℕ) → IsReady t → c ≡ class_at t.classes.items n → o ≡ position (nat_eq c) t.seen.keys → IfSome o (λ i. IsAt (shape_at t.shapes) t.order.items n i)
places t n c None r e h = tt
places t n c (Some i) r e h = is_at t n c i r e (sym h)
