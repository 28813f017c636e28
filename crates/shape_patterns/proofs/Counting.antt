-- Numbers and literals that are left, one after another.
use Rattle.std.proofs.Common.{◌≡◌, ℕ, suc, ◌+◌, ◌-◌, ◌<◌, List, true, false, Some, arith, ap, sym, ◌∙◌}
use Rattle.std.specs.Prelude.{cond, pos}
use Rattle.mo_num.specs.declared.kind.Kind.{Kind}
use Rattle.mo_types.specs.declared.datum.Datum.{Datum}
use Rattle.mo_types.specs.declared.datum.Datum.TheVariants as part
use Rattle.mo_types.specs.declared.node.Node.{Node}
use Rattle.mo_types.specs.declared.node.TypeId.{TypeId}
use Rattle.pattern_coverage.specs.Leaves.{is_among}
use Rattle.shape_patterns.specs.Choice.{first_left, is_small_left, numbered, small_left}

pub small_here : (k : Kind) (n i : ℕ) (ds : List Datum) → is_small_left k i ds ≡ true → Some (part.Number (pos i)) ≡ small_left k (suc n) i ds
small_here k n i ds e = ap (λ b. cond b (Some (part.Number (pos i))) (small_left k n (suc i) ds)) (sym e)

pub small_next : (k : Kind) (n i : ℕ) (ds : List Datum) → i < n → is_small_left k i ds ≡ false → small_left k (suc (n - (i + 1))) (i + 1) ds ≡ small_left k (suc (n - i)) i ds
small_next k n i ds l e =
    ap (λ j. small_left k (suc (n - (i + 1))) j ds) (let s : i + 1 ≡ suc i = omega arith in s)
    ∙ ap (λ j. small_left k j (suc i) ds) (let s : suc (n - (i + 1)) ≡ n - i = omega (arith, l) in s)
    ∙ ap (λ b. cond b (Some (part.Number (pos i))) (small_left k (n - i) (suc i) ds)) (sym e)

pub first_here : (x : Node TypeId) (n i : ℕ) (ds : List Datum) → i < n → is_among (numbered x i) ds ≡ false → numbered x i ≡ first_left x (n - i) i ds
first_here x n i ds l e =
    ap (λ b. cond b (first_left x (n - suc i) (suc i) ds) (numbered x i)) (sym e)
    ∙ ap (λ j. first_left x j i ds) (let s : suc (n - suc i) ≡ n - i = omega (arith, l) in s)

pub first_next : (x : Node TypeId) (n i : ℕ) (ds : List Datum) → i < n → is_among (numbered x i) ds ≡ true → first_left x (n - (i + 1)) (i + 1) ds ≡ first_left x (n - i) i ds
first_next x n i ds l e =
    ap (λ j. first_left x (n - j) j ds) (let s : i + 1 ≡ suc i = omega arith in s)
    ∙ ap (λ b. cond b (first_left x (n - suc i) (suc i) ds) (numbered x i)) (sym e)
    ∙ ap (λ j. first_left x j i ds) (let s : suc (n - suc i) ≡ n - i = omega (arith, l) in s)

-- at the end of the row
pub first_end : (x : Node TypeId) (n i : ℕ) (ds : List Datum) → i ≡ n → numbered x n ≡ first_left x (n - i) i ds
first_end x n i ds e = ap (numbered x) (sym e) ∙ ap (λ j. first_left x j i ds) (let s : 0 ≡ n - i = omega (arith, e) in s)
