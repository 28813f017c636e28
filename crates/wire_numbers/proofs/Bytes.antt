-- Bytes in a memory, one by one.
use Rattle.std.proofs.Common.{◌≡◌, ℕ, suc, ◌+◌, ◌*◌, ◌^◌, ◌<◌, ◌≤◌, List, [], ◌∷◌, length, take, drop, get_or, true, false, cond, nat_le, nat_lt, Ok, Err, ap, ◌∙◌, arith, drop-cons}
use Rattle.std.proofs.lemmas.Bool.Decides.{nat_tests}
use Rattle.std.proofs.Math.Nat.{mod-eq_of_lt, mul-le-mul_right}
use Rattle.wasm_tree.specs.declared.trap.Trap.TheVariants as trap
use Rattle.wasm_tree.specs.declared.types.ValueType.TheVariants.{I32, I64}
use Rattle.wasm_tree.specs.declared.op.LoadKind.TheVariants.{I64From8U}
use Rattle.wasm_tree.specs.Numeric.{low}
use Rattle.wasm_tree.specs.Exec.{number_of}
use Rattle.low_rules.specs.Rule.{loads}
use Rattle.low_rules.proofs.Steps.{low_is, le_test}

-- These bytes stand there.
abbrev pub Stand : List ℕ → ℕ → List ℕ → Type 0
Stand memory at [] = Unit {0}
Stand memory at (b ∷ bs) = (get_or memory at 0 ≡ b) × Stand memory (suc at) bs

pub long_is : (n : ℕ) → n < 2 ^ 64 → low I64 n ≡ n
long_is n h = mod-eq_of_lt h

pub lt_test : (a b : ℕ) → a < b → nat_lt a b ≡ true
lt_test a b h = grind (arith, nat_tests)

pub not_lt : (a b : ℕ) → b ≤ a → nat_lt a b ≡ false
not_lt a b h = grind (arith, nat_tests)

pub loads_long_byte : (memory : List ℕ) (a : ℕ) → a < length memory → a < 2 ^ 32 → loads memory I64From8U (low I32 a + 0) ≡ Ok (get_or memory a 0)
loads_long_byte memory a lt h =
    let at : low I32 a + 0 ≡ a = ap (λ n. n + 0) (low_is a h) ∙ omega arith in
    let inside : nat_le (a + 1) (length memory) ≡ true = le_test (a + 1) (length memory) (omega arith) in
    let there : drop a memory ≡ get_or memory a 0 ∷ drop (suc a) memory = drop-cons memory a 0 lt in
    let whole : get_or memory a 0 + 256 * 0 ≡ get_or memory a 0 = omega arith in
    ap (λ n. loads memory I64From8U n) at
    ∙ ap (λ t. cond t (Ok (number_of (take 1 (drop a memory)))) (Err trap.Bounds)) inside
    ∙ ap (λ (l : List ℕ). Ok (number_of (take 1 l))) there
    ∙ ap (λ n. Ok n) whole

-- a digit more
pub digit_below : (v s d : ℕ) → v < s → d < 128 → v + d * s < s * 128
digit_below v s d h l = let m : d * s ≤ 127 * s = mul-le-mul_right s (omega (arith, l)) in omega (arith, m, h)
