-- Steps of proofs by the rule.
use Rattle.std.proofs.Common.{◌≡◌, ℕ, suc, ◌+◌, ◌*◌, ◌^◌, ◌<◌, ◌≤◌, List, ◌∷◌, length, take, drop, get_or, Bool, true, false, cond, nat_le, nat_lt, nat_eq, Result, Ok, Err, refl, sym, ap, ◌∙◌, subst, arith, drop-cons}
use Rattle.std.proofs.lemmas.Bool.Decides.{nat_tests}
use Rattle.std.proofs.Math.Nat.{mod-eq_of_lt}
use Rattle.wasm_tree.specs.declared.trap.Trap.{Trap}
use Rattle.wasm_tree.specs.declared.trap.Trap.TheVariants as trap
use Rattle.wasm_tree.specs.declared.types.ValueType.TheVariants.{I32}
use Rattle.wasm_tree.specs.declared.op.LoadKind.TheVariants.{I32From8U}
use Rattle.wasm_tree.specs.Numeric.{low, flag}
use Rattle.wasm_tree.specs.Exec.{number_of}
use Rattle.low_rules.specs.Rule.{OnTest, OnResult, loads, is_zero}

pub on_true : (P Q : Type 0) (t : Bool) → t ≡ true → P → OnTest t P Q
on_true P Q t e h = subst (λ t. OnTest t P Q) (sym e) h

pub on_false : (P Q : Type 0) (t : Bool) → t ≡ false → Q → OnTest t P Q
on_false P Q t e h = subst (λ t. OnTest t P Q) (sym e) h

pub on_test : (P Q : Type 0) (t : Bool) → (t ≡ true → P) → (t ≡ false → Q) → OnTest t P Q
on_test P Q true p q = p refl
on_test P Q false p q = q refl

-- A test of what a comparison gave.
pub on_flag : (P Q : Type 0) (t : Bool) → (t ≡ false → P) → (t ≡ true → Q) → OnTest (is_zero (flag t)) P Q
on_flag P Q true p q = q refl
on_flag P Q false p q = p refl

pub on_ok : (P : ℕ → Type 0) (Q : Trap → Type 0) (r : Result ℕ Trap) (v : ℕ) → r ≡ Ok v → P v → OnResult r P Q
on_ok P Q r v e h = subst (λ r. OnResult r P Q) (sym e) h

pub le_test : (a b : ℕ) → a ≤ b → nat_le a b ≡ true
le_test a b h = grind (arith, nat_tests)

pub not_le : (a b : ℕ) → b < a → nat_le a b ≡ false
not_le a b h = grind (arith, nat_tests)

pub le_true : (a b : ℕ) → nat_le a b ≡ true → a ≤ b
le_true a b h = grind (arith, nat_tests)

pub le_false : (a b : ℕ) → nat_le a b ≡ false → b < a
le_false a b h = grind (arith, nat_tests)

pub lt_true : (a b : ℕ) → nat_lt a b ≡ true → a < b
lt_true a b h = grind (arith, nat_tests)

pub lt_false : (a b : ℕ) → nat_lt a b ≡ false → b ≤ a
lt_false a b h = grind (arith, nat_tests)

pub low_is : (n : ℕ) → n < 2 ^ 32 → low I32 n ≡ n
low_is n h = mod-eq_of_lt h

pub nonzero : (n : ℕ) → 0 < n → n < 2 ^ 32 → is_zero n ≡ false
nonzero n lt h = ap (λ x. nat_eq x 0) (low_is n h) ∙ not_eq n lt
  where
    not_eq : (n : ℕ) → 0 < n → nat_eq n 0 ≡ false
    not_eq n lt = grind (arith, nat_tests)

-- A byte that is read.
pub loads_byte : (memory : List ℕ) (a : ℕ) → a < length memory → a < 2 ^ 32 → loads memory I32From8U (low I32 a + 0) ≡ Ok (get_or memory a 0)
loads_byte memory a lt h =
    let at : low I32 a + 0 ≡ a = ap (λ n. n + 0) (low_is a h) ∙ omega arith in
    let inside : nat_le (a + 1) (length memory) ≡ true = le_test (a + 1) (length memory) (omega arith) in
    let there : drop a memory ≡ get_or memory a 0 ∷ drop (suc a) memory = drop-cons memory a 0 lt in
    let whole : get_or memory a 0 + 256 * 0 ≡ get_or memory a 0 = omega arith in
    ap (λ n. loads memory I32From8U n) at
    ∙ ap (λ t. cond t (Ok (number_of (take 1 (drop a memory)))) (Err trap.Bounds)) inside
    ∙ ap (λ (l : List ℕ). Ok (number_of (take 1 l))) there
    ∙ ap (λ n. Ok n) whole
