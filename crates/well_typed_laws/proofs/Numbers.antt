-- Numbers that are under no type of a graph.
use Rattle.std.proofs.Common.{◌≡◌, inl, inr, ℕ, zero, suc, ◌<◌, ◌+◌, Bool, true, false, List, [], ◌∷◌, length, refl, sym, subst, arith}
use Rattle.std.specs.Prelude.{cond, slice_get}
use Rattle.mo_types.specs.Graph.{Slot, node_of_slot}
use Rattle.mo_types.specs.Sub.{IsSomething}
use Rattle.subtype_laws.specs.Reached.{Among}
use Rattle.typing_rules.specs.SameTerms.{same, place_from}
use Rattle.typing_rules.specs.Terms.{Term}
use Rattle.typing_rules.proofs.SameTerms.{same_is}
use Rattle.well_typed_laws.specs.WellTyped.{NumbersAreOfTypes}

placed : (n : ℕ) (terms : List Term) (u : Term) → place_from n terms u < n + length terms → Among u terms
placed n [] u h = omega (arith, h)
placed n (v ∷ vs) u h = by (same v u) refl h (λ i. placed (suc n) vs u i) where
  next : (m : ℕ) → m < n + suc (length vs) → m < suc n + length vs
  next m i = omega (arith, i)

  by : (b : Bool) → same v u ≡ b → cond b n (place_from (suc n) vs u) < n + suc (length vs) → (place_from (suc n) vs u < suc n + length vs → Among u vs) → Among u (v ∷ vs)
  by true e i later = inl (same_is v u e)
  by false e i later = inr (later (next (place_from (suc n) vs u) i))

within : (slots : List Slot) (n : ℕ) → IsSomething (node_of_slot (slice_get slots n)) → n < length slots
within [] n h = absurd h
within (s ∷ slots) zero h = omega (arith)
within (s ∷ slots) (suc n) h = omega (arith, within slots n h)

pub numbers_are_of_types : NumbersAreOfTypes
numbers_are_of_types slots terms many u h = placed zero terms u (subst (λ n. place_from zero terms u < n) (sym (first (length terms))) (subst (λ n. place_from zero terms u < n) (sym many) (within slots (place_from zero terms u) h))) where
  first : (n : ℕ) → zero + n ≡ n
  first n = omega (arith)
