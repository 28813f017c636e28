-- The order of first visit is that of the definition.
use Rattle.std.proofs.Common.{◌≡◌, ℕ, zero, suc, inl, inr, Bool, true, false, List, [], ◌∷◌, ◌++◌, length, Option, Some, None, slice_get, refl, sym, ap, ◌∙◌, subst}
use Rattle.mo_types.specs.declared.wire.Wire.{Wire}
use Rattle.mo_types.specs.declared.wire.Wire.TheVariants.{Simple, Opt, Vec, Record, Variant, Func, Service}
use Rattle.mo_types.specs.Wire.{SameWire}
use Rattle.mo_types.specs.Heads.{map_option}
use Rattle.mo_types.specs.Header.{parts_of, IsSimple, IsAt, IsKnown, Visits}
use Rattle.mo_types.specs.Header as header
use Rattle.candid_laws.proofs.Same.{same_refl}
use Rattle.mo_coding.specs.Heads.{Heads}
use Rattle.mo_coding.specs.Equality.{same}
use Rattle.mo_coding.specs.Order.{is_simple, place, is_found, is_placed, order_of}
use Rattle.mo_coding.proofs.Members.{has_left, has_right}
use Rattle.mo_coding.proofs.Heads.{AreFinite}
use Rattle.mo_coding.proofs.Equality.{same_from, same_to}
use Rattle.mo_coding.proofs.Truths.{or_either, or_left, or_right}
use Rattle.mo_coding.proofs.Walks.{Walk, Done, Skip, New, walked}

simple_is : {B : Type 0} (w : Wire B) → is_simple w ≡ true → IsSimple w
simple_is (Simple p) e = tt
simple_is (Opt a) e = cc
simple_is (Vec a) e = cc
simple_is (Record es) e = cc
simple_is (Variant es) e = cc
simple_is (Func ps rs ns) e = cc
simple_is (Service ms) e = cc

is_simple_of : {B : Type 0} (w : Wire B) → IsSimple w → is_simple w ≡ true
is_simple_of (Simple p) h = refl
is_simple_of (Opt a) h = absurd h
is_simple_of (Vec a) h = absurd h
is_simple_of (Record es) h = absurd h
is_simple_of (Variant es) h = absurd h
is_simple_of (Func ps rs ns) h = absurd h
is_simple_of (Service ms) h = absurd h

module _ {B : Type 0} (g : Heads B) (f : AreFinite g) where
  at_next : (u : B) (us : List B) (t : B) (i : ℕ) → IsAt g.head us t i → IsAt g.head (u ∷ us) t (suc i)
  at_next u us t i a = record { other = a.other; there = a.there; same = a.same }

  -- a place that is found is one of an equal type
  pub placed_at : (order : List B) (t : B) (i : ℕ) → place g order t ≡ Some i → IsAt g.head order t i
  placed_at [] t i e = cc
  placed_at (u ∷ us) t i e = by (same g g u t) refl (placed_at us t) e where
    by : (b : Bool) → same g g u t ≡ b → ((j : ℕ) → place g us t ≡ Some j → IsAt g.head us t j) → elim b [ true ↦ Some 0 | false ↦ map_option suc (place g us t) ] ≡ Some i → IsAt g.head (u ∷ us) t i
    by true s r h = let k : 0 ≡ i = cc in subst (λ n. IsAt g.head (u ∷ us) t n) k (record { other = u; there = refl; same = same_to g g f f u t s })
    by false s r h = next (place g us t) refl h where
      next : (o : Option ℕ) → place g us t ≡ o → map_option suc o ≡ Some i → IsAt g.head (u ∷ us) t i
      next None p q = cc
      next (Some j) p q = let k : suc j ≡ i = cc in subst (λ n. IsAt g.head (u ∷ us) t n) k (at_next u us t j (r j p))

  -- and where none is found there is none
  pub not_placed : (order : List B) (t : B) → place g order t ≡ None → IsKnown g.head order t → ⊥
  not_placed [] t e k = let h : ◌≡◌ {A = Option B} None (Some k.1.other) = k.1.there in cc
  not_placed (u ∷ us) t e k = by (same g g u t) refl (not_placed us t) e k.0 k.1.other k.1.there k.1.same where
    by : (b : Bool) → same g g u t ≡ b → (place g us t ≡ None → IsKnown g.head us t → ⊥) → ◌≡◌ {A = Option ℕ} (elim b [ true ↦ Some 0 | false ↦ map_option suc (place g us t) ]) None → (i : ℕ) (o : B) → slice_get (u ∷ us) i ≡ Some o → SameWire g.head g.head o t → ⊥
    by true s r h i o a w = cc
    by false s r h zero o a w =
        let p : Some u ≡ Some o = a in
        let q : u ≡ o = cc in
        let v : false ≡ true = sym s ∙ same_from g g f f u t (subst (λ z. SameWire g.head g.head z t) (sym q) w) in cc
    by false s r h (suc i) o a w = r (none (place g us t) h) (i, record { other = o; there = a; same = w }) where
      none : (o : Option ℕ) → map_option suc o ≡ None → o ≡ None
      none None q = refl
      none (Some j) q = cc

  found : (order : List B) (t : B) → is_found (place g order t) ≡ true → IsKnown g.head order t
  found order t e = by (place g order t) refl e where
    by : (o : Option ℕ) → place g order t ≡ o → is_found o ≡ true → IsKnown g.head order t
    by None p q = cc
    by (Some i) p q = (i, placed_at order t i p)

  finds : (order : List B) (t : B) → IsKnown g.head order t → is_found (place g order t) ≡ true
  finds order t k = by (place g order t) refl where
    by : (o : Option ℕ) → place g order t ≡ o → is_found (place g order t) ≡ true
    by None p = absurd (not_placed order t p k)
    by (Some i) p = ap is_found p

  not_true : {b : Bool} → b ≡ true → b ≡ false → ⊥
  not_true e h = let g : true ≡ false = sym e ∙ h in cc

  get_left : (xs ys : List B) (i : ℕ) (x : B) → slice_get xs i ≡ Some x → slice_get (xs ++ ys) i ≡ Some x
  get_left [] ys i x e = cc
  get_left (z ∷ xs) ys zero x e = e
  get_left (z ∷ xs) ys (suc i) x e = get_left xs ys i x e

  get_last : (xs : List B) (x : B) → slice_get (xs ++ x ∷ []) (length xs) ≡ Some x
  get_last [] x = refl
  get_last (z ∷ xs) x = get_last xs x

  grows : (order : List B) (t x : B) → is_placed g order x ≡ true → is_placed g (order ++ t ∷ []) x ≡ true
  grows order t x e = elim (or_either (is_simple (g.head x)) (is_found (place g order x)) e) [
    | inl h ↦ or_left (is_simple (g.head x)) (is_found (place g (order ++ t ∷ []) x)) h
    | inr h ↦ let k = found order x h in or_right (is_simple (g.head x)) (is_found (place g (order ++ t ∷ []) x))
        (finds (order ++ t ∷ []) x (k.0, record { other = k.1.other; there = get_left order (t ∷ []) k.0 k.1.other k.1.there; same = k.1.same }))
  ]

  learns : (order : List B) (t : B) → is_placed g (order ++ t ∷ []) t ≡ true
  learns order t = or_right (is_simple (g.head t)) (is_found (place g (order ++ t ∷ []) t)) (finds (order ++ t ∷ []) t (length order, record { other = t; there = get_last order t; same = same_refl g.head t }))

  visits : {order todo out : List B} → Walk (is_placed g) (λ t. parts_of (g.head t)) order todo out → Visits g.head order todo out
  visits Done = header.Done
  visits (Skip {order} t e w) = elim (or_either (is_simple (g.head t)) (is_found (place g order t)) e) [
    | inl h ↦ header.Skip t (simple_is (g.head t) h) (visits w)
    | inr h ↦ header.Old t (found order t h) (visits w)
  ]
  visits (New {order} t e w) = header.New t
      (λ h. not_true (or_left (is_simple (g.head t)) (is_found (place g order t)) (is_simple_of (g.head t) h)) e)
      (λ k. not_true (or_right (is_simple (g.head t)) (is_found (place g order t)) (finds order t k)) e)
      (visits w)

  pub order_visits : (args : List B) → Visits g.head [] args (order_of g args)
  order_visits args = visits (walked (is_placed g) (λ t. parts_of (g.head t)) (args ++ g.parts) grows learns (λ t x h. has_right args g.parts x (f.closed t x h)) args (λ x h. has_left args g.parts x h))
