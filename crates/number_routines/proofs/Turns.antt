-- What 64 bits make of sums and differences of numbers with signs.
use Rattle.std.proofs.Common.{◌≡◌, ◌⊎◌, inl, inr, ℕ, ◌+◌, ◌-◌, ◌<◌, ◌≤◌, ◌^◌, ◌%◌, Bool, true, false, not, nat_lt, refl, sym, ap, ◌∙◌, subst, arith, ℤ, pos, negsuc, ◌+ℤ◌, ◌-ℤ◌, ◌≤ℤ◌, ◌<ℤ◌}
use Rattle.std.specs.Prelude.{int_lt}
use Rattle.std.proofs.lemmas.Bool.Decides.{nat_tests}
use Rattle.std.proofs.lemmas.Int.{ints}
use Rattle.std.proofs.Math.Nat.{mod-eq_of_lt, add-mod_right}
use Rattle.wasm_tree.specs.declared.types.ValueType.TheVariants.{I64}
use Rattle.wasm_tree.specs.Numeric.{low}
use Rattle.wasm_tree.specs.Exec.{bits64}
use Rattle.number_routines.proofs.Wide.{Wide, long_is, bits_small, between_wide}

-- The word is of a number that is the exact one, or that one but for a turn of 64 bits.
pub record Turned (exact : ℤ) (word : ℕ) : Type 0 where
  pub z : ℤ
  pub wide : Wide z
  pub bits : word ≡ bits64 z
  pub is : (z ≡ exact) ⊎ ((z +ℤ pos (2 ^ 64) ≡ exact) ⊎ (z ≡ exact +ℤ pos (2 ^ 64)))

-- A number of 64 bits is not turned.
pub turned_exact : (exact : ℤ) (word : ℕ) → Turned exact word → Wide exact → word ≡ bits64 exact
turned_exact exact word t wide = t.bits ∙ ap bits64 (by t.is)
  where
    a : (negsuc (2 ^ 63 - 1) ≤ℤ t.z) × (t.z ≤ℤ pos (2 ^ 63 - 1))
    a = between_wide t.z t.wide

    b : (negsuc (2 ^ 63 - 1) ≤ℤ exact) × (exact ≤ℤ pos (2 ^ 63 - 1))
    b = between_wide exact wide

    by : (t.z ≡ exact) ⊎ ((t.z +ℤ pos (2 ^ 64) ≡ exact) ⊎ (t.z ≡ exact +ℤ pos (2 ^ 64))) → t.z ≡ exact
    by (inl e) = e
    by (inr (inl e)) = let p = a.0 in let q = a.1 in let r = b.0 in let s = b.1 in absurd (omega (arith, ints, e, p, q, r, s))
    by (inr (inr e)) = let p = a.0 in let q = a.1 in let r = b.0 in let s = b.1 in absurd (omega (arith, ints, e, p, q, r, s))

-- A number that is turned is none of 64 bits.
pub turned_out : (z exact : ℤ) → Wide z → (z +ℤ pos (2 ^ 64) ≡ exact) ⊎ (z ≡ exact +ℤ pos (2 ^ 64)) → (pos (2 ^ 63 - 1) <ℤ exact) ⊎ (exact <ℤ negsuc (2 ^ 63 - 1))
turned_out z exact wide (inl e) = let a = between_wide z wide in let p = a.0 in inl (omega (arith, ints, e, p))
turned_out z exact wide (inr e) = let a = between_wide z wide in let p = a.1 in inr (omega (arith, ints, e, p))

pub sum_turned : (x y : ℤ) → Wide x → Wide y → Turned (x +ℤ y) (low I64 (bits64 x + bits64 y))
sum_turned (pos a) (pos b) p q = by (nat_lt (a + b) (2 ^ 63)) refl
  where
    by : (t : Bool) → nat_lt (a + b) (2 ^ 63) ≡ t → Turned ((pos a) +ℤ (pos b)) (low I64 (bits64 (pos a) + bits64 (pos b)))
    by true e = let lt : a + b < 2 ^ 63 = grind (arith, nat_tests, e) in record { z = pos (a + b); wide = lt; bits = mod-eq_of_lt (omega (arith, lt)); is = inl refl }
    by false e = let ge : 2 ^ 63 ≤ a + b = grind (arith, nat_tests, e) in record { z = negsuc (2 ^ 64 - 1 - (a + b)); wide = omega (arith, ge, p, q); bits = mod-eq_of_lt (omega (arith, p, q)) ∙ omega (arith, p, q); is = inr (inl (omega (arith, ints, p, q))) }
sum_turned (pos a) (negsuc b) p q = by (nat_lt b a) refl
  where
    by : (t : Bool) → nat_lt b a ≡ t → Turned ((pos a) +ℤ (negsuc b)) (low I64 (bits64 (pos a) + bits64 (negsuc b)))
    by true e =
        let lt : b < a = grind (arith, nat_tests, e) in
        let s : a + (2 ^ 64 - 1 - b) ≡ a - b - 1 + 2 ^ 64 = omega (arith, lt, q) in
        record { z = pos (a - b - 1); wide = omega (arith, p); bits = ap (λ n. n % 2 ^ 64) s ∙ add-mod_right (a - b - 1) (2 ^ 64) ∙ mod-eq_of_lt (omega (arith, p)); is = inl (omega (arith, ints, lt)) }
    by false e = let le : a ≤ b = grind (arith, nat_tests, e) in record { z = negsuc (b - a); wide = omega (arith, q); bits = mod-eq_of_lt (omega (arith, le, q)) ∙ omega (arith, le, q); is = inl (omega (arith, ints, le)) }
sum_turned (negsuc a) (pos b) p q = by (nat_lt a b) refl
  where
    by : (t : Bool) → nat_lt a b ≡ t → Turned ((negsuc a) +ℤ (pos b)) (low I64 (bits64 (negsuc a) + bits64 (pos b)))
    by true e =
        let lt : a < b = grind (arith, nat_tests, e) in
        let s : 2 ^ 64 - 1 - a + b ≡ b - a - 1 + 2 ^ 64 = omega (arith, lt, p) in
        record { z = pos (b - a - 1); wide = omega (arith, q); bits = ap (λ n. n % 2 ^ 64) s ∙ add-mod_right (b - a - 1) (2 ^ 64) ∙ mod-eq_of_lt (omega (arith, q)); is = inl (omega (arith, ints, lt)) }
    by false e = let le : b ≤ a = grind (arith, nat_tests, e) in record { z = negsuc (a - b); wide = omega (arith, p); bits = mod-eq_of_lt (omega (arith, le, p)) ∙ omega (arith, le, p); is = inl (omega (arith, ints, le)) }
sum_turned (negsuc a) (negsuc b) p q = by (nat_lt (a + b + 1) (2 ^ 63)) refl
  where
    s : 2 ^ 64 - 1 - a + (2 ^ 64 - 1 - b) ≡ 2 ^ 64 - 2 - a - b + 2 ^ 64
    s = omega (arith, p, q)

    m : (2 ^ 64 - 1 - a + (2 ^ 64 - 1 - b)) % 2 ^ 64 ≡ 2 ^ 64 - 2 - a - b
    m = ap (λ n. n % 2 ^ 64) s ∙ add-mod_right (2 ^ 64 - 2 - a - b) (2 ^ 64) ∙ mod-eq_of_lt (omega arith)

    by : (t : Bool) → nat_lt (a + b + 1) (2 ^ 63) ≡ t → Turned ((negsuc a) +ℤ (negsuc b)) (low I64 (bits64 (negsuc a) + bits64 (negsuc b)))
    by true e = let lt : a + b + 1 < 2 ^ 63 = grind (arith, nat_tests, e) in record { z = negsuc (a + b + 1); wide = lt; bits = m ∙ omega (arith, lt); is = inl (omega (arith, ints)) }
    by false e = let ge : 2 ^ 63 ≤ a + b + 1 = grind (arith, nat_tests, e) in record { z = pos (2 ^ 64 - 2 - a - b); wide = omega (arith, ge); bits = m; is = inr (inr (omega (arith, ints, p, q))) }

-- ---- the tests tell where the sum is turned

pub sum_same_test : (x y z : ℤ) → z ≡ x +ℤ y → int_lt z x ≡ int_lt y (pos 0)
sum_same_test x y z e = by (int_lt z x) refl (int_lt y (pos 0)) refl
  where
    by : (s : Bool) → int_lt z x ≡ s → (t : Bool) → int_lt y (pos 0) ≡ t → int_lt z x ≡ int_lt y (pos 0)
    by true p true q = p ∙ sym q
    by false p false q = p ∙ sym q
    by true p false q = absurd (omega (arith, ints, e))
    by false p true q = absurd (omega (arith, ints, e))

pub sum_other_test : (x y z : ℤ) → Wide x → Wide y → Wide z → (z +ℤ pos (2 ^ 64) ≡ x +ℤ y) ⊎ (z ≡ (x +ℤ y) +ℤ pos (2 ^ 64)) → int_lt z x ≡ not (int_lt y (pos 0))
sum_other_test x y z hx hy hz e = by (int_lt z x) refl (int_lt y (pos 0)) refl e
  where
    bx : (negsuc (2 ^ 63 - 1) ≤ℤ x) × (x ≤ℤ pos (2 ^ 63 - 1))
    bx = between_wide x hx

    b_y : (negsuc (2 ^ 63 - 1) ≤ℤ y) × (y ≤ℤ pos (2 ^ 63 - 1))
    b_y = between_wide y hy

    bz : (negsuc (2 ^ 63 - 1) ≤ℤ z) × (z ≤ℤ pos (2 ^ 63 - 1))
    bz = between_wide z hz

    by : (s : Bool) → int_lt z x ≡ s → (t : Bool) → int_lt y (pos 0) ≡ t → (z +ℤ pos (2 ^ 64) ≡ x +ℤ y) ⊎ (z ≡ (x +ℤ y) +ℤ pos (2 ^ 64)) → int_lt z x ≡ not (int_lt y (pos 0))
    by true p false q e = p ∙ ap not (sym q)
    by false p true q e = p ∙ ap not (sym q)
    by true p true q (inl e) = let a = bx.0 in let b = bx.1 in let c = b_y.0 in let d = b_y.1 in let k = bz.0 in let l = bz.1 in absurd (omega (arith, ints, e, p, q, a, b, c, d, k, l))
    by true p true q (inr e) = let a = bx.0 in let b = bx.1 in let c = b_y.0 in let d = b_y.1 in let k = bz.0 in let l = bz.1 in absurd (omega (arith, ints, e, p, q, a, b, c, d, k, l))
    by false p false q (inl e) = let a = bx.0 in let b = bx.1 in let c = b_y.0 in let d = b_y.1 in let k = bz.0 in let l = bz.1 in absurd (omega (arith, ints, e, p, q, a, b, c, d, k, l))
    by false p false q (inr e) = let a = bx.0 in let b = bx.1 in let c = b_y.0 in let d = b_y.1 in let k = bz.0 in let l = bz.1 in absurd (omega (arith, ints, e, p, q, a, b, c, d, k, l))

-- ---- differences

difference_turned : (x y : ℤ) → Wide x → Wide y → Turned (x -ℤ y) ((bits64 x + 2 ^ 64 - bits64 y) % 2 ^ 64)
difference_turned (pos a) (pos b) p q = by (nat_lt a b) refl
  where
    by : (t : Bool) → nat_lt a b ≡ t → Turned ((pos a) -ℤ (pos b)) ((bits64 (pos a) + 2 ^ 64 - bits64 (pos b)) % 2 ^ 64)
    by true e = let lt : a < b = grind (arith, nat_tests, e) in record { z = negsuc (b - a - 1); wide = omega (arith, q); bits = mod-eq_of_lt (omega (arith, lt)) ∙ omega (arith, lt, q); is = inl (omega (arith, ints, lt)) }
    by false e =
        let le : b ≤ a = grind (arith, nat_tests, e) in
        let s : a + 2 ^ 64 - b ≡ a - b + 2 ^ 64 = omega (arith, le) in
        record { z = pos (a - b); wide = omega (arith, p); bits = ap (λ n. n % 2 ^ 64) s ∙ add-mod_right (a - b) (2 ^ 64) ∙ mod-eq_of_lt (omega (arith, p)); is = inl (omega (arith, ints, le)) }
difference_turned (pos a) (negsuc b) p q = by (nat_lt (a + b + 1) (2 ^ 63)) refl
  where
    s : a + 2 ^ 64 - (2 ^ 64 - 1 - b) ≡ a + b + 1
    s = omega (arith, q)

    m : (a + 2 ^ 64 - (2 ^ 64 - 1 - b)) % 2 ^ 64 ≡ a + b + 1
    m = ap (λ n. n % 2 ^ 64) s ∙ mod-eq_of_lt (omega (arith, p, q))

    by : (t : Bool) → nat_lt (a + b + 1) (2 ^ 63) ≡ t → Turned ((pos a) -ℤ (negsuc b)) ((bits64 (pos a) + 2 ^ 64 - bits64 (negsuc b)) % 2 ^ 64)
    by true e = let lt : a + b + 1 < 2 ^ 63 = grind (arith, nat_tests, e) in record { z = pos (a + b + 1); wide = lt; bits = m; is = inl (omega (arith, ints)) }
    by false e = let ge : 2 ^ 63 ≤ a + b + 1 = grind (arith, nat_tests, e) in record { z = negsuc (2 ^ 64 - 1 - (a + b + 1)); wide = omega (arith, ge, p, q); bits = m ∙ omega (arith, p, q); is = inr (inl (omega (arith, ints, p, q))) }
difference_turned (negsuc a) (pos b) p q = by (nat_lt (a + b) (2 ^ 63)) refl
  where
    s : 2 ^ 64 - 1 - a + 2 ^ 64 - b ≡ 2 ^ 64 - 1 - a - b + 2 ^ 64
    s = omega (arith, p, q)

    m : (2 ^ 64 - 1 - a + 2 ^ 64 - b) % 2 ^ 64 ≡ 2 ^ 64 - 1 - a - b
    m = ap (λ n. n % 2 ^ 64) s ∙ add-mod_right (2 ^ 64 - 1 - a - b) (2 ^ 64) ∙ mod-eq_of_lt (omega arith)

    by : (t : Bool) → nat_lt (a + b) (2 ^ 63) ≡ t → Turned ((negsuc a) -ℤ (pos b)) ((bits64 (negsuc a) + 2 ^ 64 - bits64 (pos b)) % 2 ^ 64)
    by true e = let lt : a + b < 2 ^ 63 = grind (arith, nat_tests, e) in record { z = negsuc (a + b); wide = lt; bits = m ∙ omega (arith, lt); is = inl (omega (arith, ints)) }
    by false e = let ge : 2 ^ 63 ≤ a + b = grind (arith, nat_tests, e) in record { z = pos (2 ^ 64 - 1 - a - b); wide = omega (arith, ge); bits = m; is = inr (inr (omega (arith, ints, p, q))) }
difference_turned (negsuc a) (negsuc b) p q = by (nat_lt b a) refl
  where
    by : (t : Bool) → nat_lt b a ≡ t → Turned ((negsuc a) -ℤ (negsuc b)) ((bits64 (negsuc a) + 2 ^ 64 - bits64 (negsuc b)) % 2 ^ 64)
    by true e = let lt : b < a = grind (arith, nat_tests, e) in record { z = negsuc (a - b - 1); wide = omega (arith, p); bits = mod-eq_of_lt (omega (arith, lt, p, q)) ∙ omega (arith, lt, p, q); is = inl (omega (arith, ints, lt)) }
    by false e =
        let le : a ≤ b = grind (arith, nat_tests, e) in
        let s : 2 ^ 64 - 1 - a + 2 ^ 64 - (2 ^ 64 - 1 - b) ≡ b - a + 2 ^ 64 = omega (arith, le, p, q) in
        record { z = pos (b - a); wide = omega (arith, q); bits = ap (λ n. n % 2 ^ 64) s ∙ add-mod_right (b - a) (2 ^ 64) ∙ mod-eq_of_lt (omega (arith, q)); is = inl (omega (arith, ints, le)) }

pub difference_word : (x y : ℤ) → Wide x → Wide y → Turned (x -ℤ y) (low I64 (low I64 (bits64 x) + 2 ^ 64 - low I64 (bits64 y)))
difference_word x y p q = subst (λ n. Turned (x -ℤ y) n) (λ i. low I64 (sym (long_is (bits64 x) (bits_small x p)) i + 2 ^ 64 - sym (long_is (bits64 y) (bits_small y q)) i)) (difference_turned x y p q)

pub difference_same_test : (x y z : ℤ) → z ≡ x -ℤ y → int_lt x z ≡ int_lt y (pos 0)
difference_same_test x y z e = by (int_lt x z) refl (int_lt y (pos 0)) refl
  where
    by : (s : Bool) → int_lt x z ≡ s → (t : Bool) → int_lt y (pos 0) ≡ t → int_lt x z ≡ int_lt y (pos 0)
    by true p true q = p ∙ sym q
    by false p false q = p ∙ sym q
    by true p false q = absurd (omega (arith, ints, e))
    by false p true q = absurd (omega (arith, ints, e))

pub difference_other_test : (x y z : ℤ) → Wide x → Wide y → Wide z → (z +ℤ pos (2 ^ 64) ≡ x -ℤ y) ⊎ (z ≡ (x -ℤ y) +ℤ pos (2 ^ 64)) → int_lt x z ≡ not (int_lt y (pos 0))
difference_other_test x y z hx hy hz e = by (int_lt x z) refl (int_lt y (pos 0)) refl e
  where
    bx : (negsuc (2 ^ 63 - 1) ≤ℤ x) × (x ≤ℤ pos (2 ^ 63 - 1))
    bx = between_wide x hx

    b_y : (negsuc (2 ^ 63 - 1) ≤ℤ y) × (y ≤ℤ pos (2 ^ 63 - 1))
    b_y = between_wide y hy

    bz : (negsuc (2 ^ 63 - 1) ≤ℤ z) × (z ≤ℤ pos (2 ^ 63 - 1))
    bz = between_wide z hz

    by : (s : Bool) → int_lt x z ≡ s → (t : Bool) → int_lt y (pos 0) ≡ t → (z +ℤ pos (2 ^ 64) ≡ x -ℤ y) ⊎ (z ≡ (x -ℤ y) +ℤ pos (2 ^ 64)) → int_lt x z ≡ not (int_lt y (pos 0))
    by true p false q e = p ∙ ap not (sym q)
    by false p true q e = p ∙ ap not (sym q)
    by true p true q (inl e) = let a = bx.0 in let b = bx.1 in let c = b_y.0 in let d = b_y.1 in let k = bz.0 in let l = bz.1 in absurd (omega (arith, ints, e, p, q, a, b, c, d, k, l))
    by true p true q (inr e) = let a = bx.0 in let b = bx.1 in let c = b_y.0 in let d = b_y.1 in let k = bz.0 in let l = bz.1 in absurd (omega (arith, ints, e, p, q, a, b, c, d, k, l))
    by false p false q (inl e) = let a = bx.0 in let b = bx.1 in let c = b_y.0 in let d = b_y.1 in let k = bz.0 in let l = bz.1 in absurd (omega (arith, ints, e, p, q, a, b, c, d, k, l))
    by false p false q (inr e) = let a = bx.0 in let b = bx.1 in let c = b_y.0 in let d = b_y.1 in let k = bz.0 in let l = bz.1 in absurd (omega (arith, ints, e, p, q, a, b, c, d, k, l))
