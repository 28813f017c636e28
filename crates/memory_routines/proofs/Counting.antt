-- Counters of loops.
use Rattle.std.proofs.Common.{◌≡◌, ℕ, suc, ◌+◌, ◌-◌, ◌%◌, ◌^◌, ◌<◌, ap, ◌∙◌, arith}
use Rattle.std.proofs.Math.Nat.{mod-eq_of_lt, add-mod_right}
use Rattle.wasm_tree.specs.declared.types.ValueType.TheVariants.{I32}
use Rattle.wasm_tree.specs.Numeric.{low}
use Rattle.low_rules.proofs.Steps.{low_is}

wraps : (n : ℕ) → n < 2 ^ 32 → low I32 (suc n + 2 ^ 32 - 1) ≡ n
wraps n h =
    let e : suc n + 2 ^ 32 - 1 ≡ n + 2 ^ 32 = omega arith in
    ap (λ k. k % 2 ^ 32) e ∙ add-mod_right n (2 ^ 32) ∙ mod-eq_of_lt h

-- One less.
pub counted : (n : ℕ) → suc n < 2 ^ 32 → low I32 (low I32 (suc n) + 2 ^ 32 - 1) ≡ n
counted n h = ap (λ k. low I32 (k + 2 ^ 32 - 1)) (low_is (suc n) h) ∙ wraps n (omega (arith, h))
