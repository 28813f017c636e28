-- When some literal of a type is none of these.
use Rattle.std.proofs.Common.{◌≡◌, ◌⊎◌, inl, inr, ℕ, zero, suc, ◌+◌, ◌<◌, ◌≤◌, List, length, Bool, true, false, arith, refl, sym, ◌∙◌, subst}
use Rattle.std.specs.Prelude.{cond}
use Rattle.mo_types.specs.declared.datum.Datum.{Datum}
use Rattle.mo_types.specs.declared.node.Node.{Node}
use Rattle.mo_types.specs.declared.node.TypeId.{TypeId}
use Rattle.pattern_coverage.specs.Leaves.{is_among, without, leaf_at, is_literal_number, first_free, remains}
use Rattle.pattern_coverage.proofs.Counted.{among_none, none_among, remaining, remaining_counted, remains_by}
use Rattle.pattern_coverage.proofs.Numbered.{numbered, literal_is, literal_counted, below_literal}

first_bound : (x : Node TypeId) (n i : ℕ) (ds : List Datum) → first_free x n i ds ≤ i + n
first_bound x zero i ds = omega arith
first_bound x (suc n) i ds = by (is_among (leaf_at x i) ds) (first_bound x n (suc i) (without (leaf_at x i) ds))
  where
    by : (b : Bool) → first_free x n (suc i) (without (leaf_at x i) ds) ≤ suc i + n → cond b (first_free x n (suc i) (without (leaf_at x i) ds)) i ≤ i + suc n
    by true h = omega (arith, h)
    by false h = omega arith

-- where there are more literals than these
pub more_remain : (x : Node TypeId) (ds : List Datum) → is_literal_number x (length ds) ≡ true → remains x ds ≡ true
more_remain x ds e = below_literal x (first_free x (length ds) 0 ds) (length ds) (let h : first_free x (length ds) 0 ds ≤ 0 + length ds = first_bound x (length ds) 0 ds in omega (arith, h)) e

pub one_remains : (x : Node TypeId) (i : ℕ) (ds : List Datum) → is_literal_number x i ≡ true → is_among (leaf_at x i) ds ≡ false → remains x ds ≡ true
one_remains x i ds l f = remains_by x (leaf_at x i) ds (literal_counted x i l) (literal_is x i l) (among_none (leaf_at x i) ds f)

less_or_not : (j n : ℕ) → (j < n) ⊎ (n ≤ j)
less_or_not j zero = inr (omega arith)
less_or_not zero (suc n) = inl (omega arith)
less_or_not (suc j) (suc n) = by (less_or_not j n)
  where
    by : (j < n) ⊎ (n ≤ j) → (suc j < suc n) ⊎ (suc n ≤ suc j)
    by (inl h) = inl (omega (arith, h))
    by (inr h) = inr (omega (arith, h))

no : false ≡ true → ⊥
no e = cc

-- where there are so many, and all are among these
pub none_remains : (x : Node TypeId) (n : ℕ) (ds : List Datum) → is_literal_number x n ≡ false → ((j : ℕ) → j < n → is_among (leaf_at x j) ds ≡ true) → remains x ds ≡ false
none_remains x n ds e all = by (remains x ds) refl
  where
    contradicts : remains x ds ≡ true → ⊥
    contradicts r =
        let d = remaining x ds r in
        let j = numbered x d.0 n (remaining_counted x ds r) e d.1 in
        let f : is_among (leaf_at x j.0) ds ≡ false = subst (λ c. is_among c ds ≡ false) (sym j.2) (none_among d.0 ds d.2) in
        elim (less_or_not j.0 n) as (λ _. ⊥) [
          | inl l ↦ no (sym f ∙ all j.0 l)
          | inr l ↦ no (sym e ∙ below_literal x n j.0 l j.1)
        ]

    by : (b : Bool) → remains x ds ≡ b → remains x ds ≡ false
    by true r = absurd (contradicts r)
    by false r = r
