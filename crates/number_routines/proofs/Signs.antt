-- Ranges of numbers with signs, quotients, remainders and products, and their words.
use Rattle.std.proofs.Common.{◌≡◌, ◌⊎◌, inl, inr, ℕ, zero, suc, ◌+◌, ◌-◌, ◌*◌, ◌/◌, ◌<◌, ◌≤◌, ◌^◌, ◌%◌, Bool, true, false, cond, nat_eq, nat_lt, nat_le, Ok, Err, refl, sym, ap, ◌∙◌, arith, ℤ, pos, negsuc, ◌*ℤ◌, ◌≤ℤ◌, ◌<ℤ◌}
use Rattle.std.specs.Prelude.{int_div, int_rem}
use Rattle.std.specs.Int.{w64, cast_signed, cast_unsigned, int_wrap}
use Rattle.std.proofs.lemmas.Bool.Decides.{nat_tests}
use Rattle.std.proofs.lemmas.Int.{ints, of_z-to_z, int_wrap_fits, wrapping_mul-bits}
use Rattle.std.proofs.lemmas.Nat.{mul-le, div-add-mod', div_below}
use Rattle.std.proofs.Math.Nat.{mod-eq_of_lt, add-mod_right}
use native.Mathlib.Nat.{div-le_self}
use Rattle.wasm_tree.specs.declared.trap.Trap.TheVariants.{DivideByZero, Overflow}
use Rattle.wasm_tree.specs.declared.types.ValueType.TheVariants.{I64}
use Rattle.wasm_tree.specs.declared.op.BinaryOperator.TheVariants as binary_op
use Rattle.wasm_tree.specs.Numeric.{low, signed, unsigned, is_too_large, quotient, binary}
use Rattle.wasm_tree.specs.Exec.{bits64}
use Rattle.number_routines.proofs.Wide.{Wide, long_is, signed_back, bits_small, wide_fits, unsigned_is}

below_is : (i j : ℕ) → i < j → nat_lt i j ≡ true
below_is i j lt = grind (arith, nat_tests)

above_is : (i j : ℕ) → j ≤ i → nat_lt i j ≡ false
above_is i j le = grind (arith, nat_tests)

-- Of a number and half as many as a kind has: whether it is one of the kind's.
abbrev pub Narrow : ℤ → ℕ → Type 0
Narrow z h =
    ((nat_lt (low I64 (2 * h - 1)) (low I64 (low I64 (bits64 z + h))) ≡ false) × (negsuc (h - 1) ≤ℤ z) × (z ≤ℤ pos (h - 1)))
    ⊎ ((nat_lt (low I64 (2 * h - 1)) (low I64 (low I64 (bits64 z + h))) ≡ true) × ((pos (h - 1) <ℤ z) ⊎ (z <ℤ negsuc (h - 1))))

pub narrow_test : (z : ℤ) (h : ℕ) → Wide z → 0 < h → h ≤ 2 ^ 62 → Narrow z h
narrow_test (pos n) h wide more few = by (nat_lt n h) refl
  where
    raised : low I64 (low I64 (n + h)) ≡ n + h
    raised = ap (low I64) (long_is (n + h) (omega (arith, wide, few))) ∙ long_is (n + h) (omega (arith, wide, few))

    top : low I64 (2 * h - 1) ≡ 2 * h - 1
    top = long_is (2 * h - 1) (omega (arith, few))

    by : (t : Bool) → nat_lt n h ≡ t → Narrow (pos n) h
    by true e = let lt : n < h = grind (arith, nat_tests, e) in inl ((λ i. nat_lt (top i) (raised i)) ∙ above_is (2 * h - 1) (n + h) (omega (arith, lt)), omega (arith, ints), omega (arith, ints, lt))
    by false e = let le : h ≤ n = grind (arith, nat_tests, e) in inr ((λ i. nat_lt (top i) (raised i)) ∙ below_is (2 * h - 1) (n + h) (omega (arith, le, more)), inl (omega (arith, ints, le, more)))
narrow_test (negsuc n) h wide more few = by (nat_lt n h) refl
  where
    top : low I64 (2 * h - 1) ≡ 2 * h - 1
    top = long_is (2 * h - 1) (omega (arith, few))

    by : (t : Bool) → nat_lt n h ≡ t → Narrow (negsuc n) h
    by true e =
        let lt : n < h = grind (arith, nat_tests, e) in
        let s : 2 ^ 64 - 1 - n + h ≡ h - 1 - n + 2 ^ 64 = omega (arith, lt, few) in
        let once : low I64 (2 ^ 64 - 1 - n + h) ≡ h - 1 - n = ap (λ k. k % 2 ^ 64) s ∙ add-mod_right (h - 1 - n) (2 ^ 64) ∙ mod-eq_of_lt (omega (arith, few)) in
        let raised : low I64 (low I64 (2 ^ 64 - 1 - n + h)) ≡ h - 1 - n = ap (low I64) once ∙ long_is (h - 1 - n) (omega (arith, few)) in
        inl ((λ i. nat_lt (top i) (raised i)) ∙ above_is (2 * h - 1) (h - 1 - n) (omega (arith, more)), omega (arith, ints, lt), omega (arith, ints))
    by false e =
        let le : h ≤ n = grind (arith, nat_tests, e) in
        let small : 2 ^ 64 - 1 - n + h < 2 ^ 64 = omega (arith, le, wide) in
        let raised : low I64 (low I64 (2 ^ 64 - 1 - n + h)) ≡ 2 ^ 64 - 1 - n + h = ap (low I64) (long_is (2 ^ 64 - 1 - n + h) small) ∙ long_is (2 ^ 64 - 1 - n + h) small in
        inr ((λ i. nat_lt (top i) (raised i)) ∙ below_is (2 * h - 1) (2 ^ 64 - 1 - n + h) (omega (arith, wide, few, more)), inr (omega (arith, ints, le, more)))

-- ---- quotients and remainders

abbrev pub Between : ℤ → ℕ → Type 0
Between z h = (negsuc (h - 1) ≤ℤ z) × (z ≤ℤ pos (h - 1))

pub between_is_wide : (z : ℤ) (h : ℕ) → h ≤ 2 ^ 63 → 0 < h → Between z h → Wide z
between_is_wide (pos n) h few more b = let k = b.1 in omega (arith, ints, k)
between_is_wide (negsuc n) h few more b = let k = b.0 in omega (arith, ints, k)

pub other_word : (b : ℤ) → Wide b → (b ≡ pos 0 → ⊥) → 0 < bits64 b
other_word (pos zero) w ne = absurd (ne refl)
other_word (pos (suc n)) w ne = omega arith
other_word (negsuc n) w ne = omega (arith, w)

pub zero_word : (b : ℤ) → Wide b → bits64 b ≡ 0 → b ≡ pos 0
zero_word (pos n) w e = ap pos e
zero_word (negsuc n) w e = absurd (omega (arith, w, e))

quotient_below : (n d : ℕ) → n / d ≤ n
quotient_below n d = div-le_self n d

remainder_below : (n d : ℕ) → n % d ≤ n
remainder_below n d = let e = div-add-mod' n d in omega (arith, e)

halved : (m n h : ℕ) → suc m ≤ h → suc m / suc (suc n) < h
halved m n h le =
    let more : h * 2 ≤ h * suc (suc n) = mul-le h 2 h (suc (suc n)) (omega arith) (omega arith) in
    div_below (suc m) (suc (suc n)) h (omega arith) (omega (arith, more, le))

pub quotient_between : (a b : ℤ) (h : ℕ) → 0 < h → Between a h → (b ≡ pos 0 → ⊥) → (a ≡ negsuc (h - 1) → b ≡ negsuc 0 → ⊥) → Between (int_div a b) h
quotient_between (pos m) (pos n) h more r ne other = let k = r.1 in let q = quotient_below m n in (omega (arith, ints, q, k), omega (arith, ints, q, k))
quotient_between (pos m) (negsuc n) h more r ne other = let k = r.1 in let q = quotient_below m (suc n) in (omega (arith, ints, q, k), omega (arith, ints, q, k))
quotient_between (negsuc m) (pos n) h more r ne other = let k = r.0 in let q = quotient_below (suc m) n in (omega (arith, ints, q, k, more), omega (arith, ints, q, k))
quotient_between (negsuc m) (negsuc zero) h more r ne other = by (nat_eq m (h - 1)) refl
  where
    by : (t : Bool) → nat_eq m (h - 1) ≡ t → Between (int_div (negsuc m) (negsuc 0)) h
    by true e = let same : m ≡ h - 1 = grind (arith, nat_tests, e) in absurd (other (ap negsuc same) refl)
    by false e =
        let k = r.0 in
        let differ : m ≡ h - 1 → ⊥ = λ s. apart m (h - 1) e s in
        let whole : suc m / 1 ≡ suc m = omega arith in
        (omega (arith, ints), omega (arith, ints, k, differ, whole))
      where
        apart : (i j : ℕ) → nat_eq i j ≡ false → i ≡ j → ⊥
        apart i j e k = grind (arith, nat_tests, e, k)
quotient_between (negsuc m) (negsuc (suc n)) h more r ne other =
    let k = r.0 in
    let le : suc m ≤ h = omega (arith, ints, k, more) in
    let q = halved m n h le in
    (omega (arith, ints), omega (arith, ints, q))

pub remainder_between : (a b : ℤ) (h : ℕ) → 0 < h → Between a h → Between (int_rem a b) h
remainder_between (pos m) (pos n) h more r = let k = r.1 in let q = remainder_below m n in (omega (arith, ints, q, k), omega (arith, ints, q, k))
remainder_between (pos m) (negsuc n) h more r = let k = r.1 in let q = remainder_below m (suc n) in (omega (arith, ints, q, k), omega (arith, ints, q, k))
remainder_between (negsuc m) (pos n) h more r = let k = r.0 in let q = remainder_below (suc m) n in (omega (arith, ints, q, k, more), omega (arith, ints, q, k))
remainder_between (negsuc m) (negsuc n) h more r = let k = r.0 in let q = remainder_below (suc m) (suc n) in (omega (arith, ints, q, k, more), omega (arith, ints, q, k))

not_zero_word : (b : ℤ) → Wide b → (b ≡ pos 0 → ⊥) → nat_eq (low I64 (bits64 b)) 0 ≡ false
not_zero_word b w ne = ap (λ n. nat_eq n 0) (long_is (bits64 b) (bits_small b w)) ∙ positive (bits64 b) (other_word b w ne)
  where
    positive : (n : ℕ) → 0 < n → nat_eq n 0 ≡ false
    positive n lt = grind (arith, nat_tests)

not_too_large : (z : ℤ) → Wide z → is_too_large I64 z ≡ false
not_too_large (pos n) w = under n w
  where
    under : (n : ℕ) → n < 2 ^ 63 → nat_le (2 ^ 63) n ≡ false
    under n lt = grind (arith, nat_tests)
not_too_large (negsuc n) w = refl

pub quotient_word : (a b : ℤ) → Wide a → Wide b → (b ≡ pos 0 → ⊥) → Wide (int_div a b) → binary I64 binary_op.DivS (bits64 a) (bits64 b) ≡ Ok (bits64 (int_div a b))
quotient_word a b wa wb ne wide =
    ap (λ t. cond t (Err DivideByZero) (quotient I64 (int_div (signed I64 (bits64 a)) (signed I64 (bits64 b))))) (not_zero_word b wb ne)
    ∙ (λ i. quotient I64 (int_div (signed_back a wa i) (signed_back b wb i)))
    ∙ ap (λ t. cond t (Err Overflow) (Ok (unsigned I64 (int_div a b)))) (not_too_large (int_div a b) wide)
    ∙ ap (λ n. Ok n) (unsigned_is (int_div a b) wide)

pub remainder_word : (a b : ℤ) → Wide a → Wide b → (b ≡ pos 0 → ⊥) → Wide (int_rem a b) → binary I64 binary_op.RemS (bits64 a) (bits64 b) ≡ Ok (bits64 (int_rem a b))
remainder_word a b wa wb ne wide =
    ap (λ t. cond t (Err DivideByZero) (Ok (unsigned I64 (int_rem (signed I64 (bits64 a)) (signed I64 (bits64 b)))))) (not_zero_word b wb ne)
    ∙ (λ i. Ok (unsigned I64 (int_rem (signed_back a wa i) (signed_back b wb i))))
    ∙ ap (λ n. Ok n) (unsigned_is (int_rem a b) wide)

-- ---- products

pub cast_back : (z : ℤ) → Wide z → cast_signed w64 (bits64 z) ≡ z
cast_back z w = ap (cast_signed w64) (sym (long_is (bits64 z) (bits_small z w))) ∙ signed_back z w

pub product_word : (a b : ℤ) → Wide a → Wide b → Wide (a *ℤ b) → low I64 (bits64 a * bits64 b) ≡ bits64 (a *ℤ b)
product_word a b wa wb wide =
    let n : ℕ = low I64 (bits64 a * bits64 b) in
    let turned : cast_signed w64 n ≡ int_wrap w64 (cast_signed w64 (bits64 a) *ℤ cast_signed w64 (bits64 b)) = wrapping_mul-bits w64 (bits64 a) (bits64 b) (bits_small a wa) (bits_small b wb) in
    let same : cast_signed w64 n ≡ a *ℤ b = turned ∙ (λ i. int_wrap w64 (cast_back a wa i *ℤ cast_back b wb i)) ∙ int_wrap_fits w64 (a *ℤ b) (wide_fits (a *ℤ b) wide) in
    sym (of_z-to_z w64 n (omega arith)) ∙ ap (cast_unsigned w64) same ∙ unsigned_is (a *ℤ b) wide
