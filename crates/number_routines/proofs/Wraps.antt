-- Arithmetic that wraps: what 64 bits make of a result differs from it by whole turns, and so does its part of a width.
use Rattle.std.proofs.Common.{◌≡◌, ℕ, ◌+◌, ◌-◌, ◌*◌, ◌/◌, ◌%◌, ◌<◌, ◌≤◌, ◌^◌, Ok, ℤ, pos, negsuc, ◌+ℤ◌, ◌-ℤ◌, ◌*ℤ◌, ◌≤ℤ◌, bit_and, refl, sym, ap, ◌∙◌, subst, arith}
use Rattle.std.specs.Prelude.{unsigned_abs}
use Rattle.std.specs.Int.{w64, cast_signed, cast_unsigned, int_wrap, int_rem_euclid, int_div_euclid}
use Rattle.std.proofs.lemmas.Int.{ints, of_z-to_z, wrapping_mul-bits}
use Rattle.std.proofs.lemmas.Nat.{and_mask}
use Rattle.mo_num.proofs.Wrapping.{turned}
use Rattle.mo_num.specs.declared.kind.Kind.TheVariants.{Nat8, Nat16, Nat32, Nat64, Int8, Int16, Int32, Int64}
use Rattle.mo_values.specs.declared.operation.Wrapping.{Wrapping}
use Rattle.mo_values.specs.declared.operation.Wrapping.TheVariants.{AddWrap, SubWrap, MulWrap}
use Rattle.mo_values.specs.Numbers.{exact, wrapped}
use Rattle.mo_values.proofs.Wrapped.{is_wrapped}
use Rattle.wasm_tree.specs.declared.types.ValueType.TheVariants.{I64}
use Rattle.wasm_tree.specs.Numeric.{low, binary}
use Rattle.wasm_tree.specs.Exec.{bits64}
use Rattle.number_routines.specs.Codes.{wrapping_operator}
use Rattle.number_routines.proofs.Wide.{Wide, long_is, bits_small, wide_between}
use Rattle.number_routines.proofs.Turns.{turned_exact, difference_word}
use Rattle.number_routines.proofs.Signs.{cast_back}

-- A word that differs from a number by turns of 64 bits.
pub record Congruent (z : ℤ) (w : ℕ) : Type 0 where
  pub small : w < 2 ^ 64
  pub turns : ℤ
  pub is : z ≡ pos w +ℤ (turns *ℤ pos (2 ^ 64))

abbrev pub word_of : Wrapping → ℕ → ℕ → ℕ
word_of AddWrap x y = low I64 (x + y)
word_of SubWrap x y = low I64 (low I64 x + 2 ^ 64 - low I64 y)
word_of MulWrap x y = low I64 (x * y)

pub operator_word : (w : Wrapping) (x y : ℕ) → binary I64 (wrapping_operator w) x y ≡ Ok (word_of w x y)
operator_word AddWrap x y = refl
operator_word SubWrap x y = refl
operator_word MulWrap x y = refl

number_congruent : (a : ℤ) → Wide a → (t : ℤ) × (a ≡ pos (bits64 a) +ℤ (t *ℤ pos (2 ^ 64)))
number_congruent (pos n) w = (pos 0, omega (arith, ints))
number_congruent (negsuc n) w = (negsuc 0, omega (arith, ints, w))

sum_turns : (a b s t : ℤ) (x y : ℕ) → a ≡ pos x +ℤ (s *ℤ pos (2 ^ 64)) → b ≡ pos y +ℤ (t *ℤ pos (2 ^ 64)) → a +ℤ b ≡ pos ((x + y) % 2 ^ 64) +ℤ (((s +ℤ t) +ℤ pos ((x + y) / 2 ^ 64)) *ℤ pos (2 ^ 64))
sum_turns a b s t x y e f = omega (arith, ints, e, f)

difference_turns : (a b s t : ℤ) (x y : ℕ) → x < 2 ^ 64 → y < 2 ^ 64 → a ≡ pos x +ℤ (s *ℤ pos (2 ^ 64)) → b ≡ pos y +ℤ (t *ℤ pos (2 ^ 64))
    → a -ℤ b ≡ pos ((x + 2 ^ 64 - y) % 2 ^ 64) +ℤ (((s -ℤ t) +ℤ (pos ((x + 2 ^ 64 - y) / 2 ^ 64) -ℤ pos 1)) *ℤ pos (2 ^ 64))
difference_turns a b s t x y p q e f = omega (arith, ints, e, f, p, q)

-- a natural number
whole_turns : (n : ℕ) → pos n ≡ pos (n % 2 ^ 64) +ℤ (pos (n / 2 ^ 64) *ℤ pos (2 ^ 64))
whole_turns n = omega (arith, ints)

below_turn : (n : ℕ) → n % 2 ^ 64 < 2 ^ 64
below_turn n = omega arith

pub natural_congruent : (w : Wrapping) (x y : ℕ) → x < 2 ^ 64 → y < 2 ^ 64 → Congruent (exact w (pos x) (pos y)) (word_of w x y)
natural_congruent AddWrap x y p q = record { small = below_turn (x + y); turns = pos ((x + y) / 2 ^ 64); is = whole_turns (x + y) }
natural_congruent SubWrap x y p q =
    let e : low I64 (low I64 x + 2 ^ 64 - low I64 y) ≡ (x + 2 ^ 64 - y) % 2 ^ 64 = λ i. low I64 (long_is x p i + 2 ^ 64 - long_is y q i) in
    subst (λ n. Congruent (pos x -ℤ pos y) n) (sym e)
    (record { small = below_turn (x + 2 ^ 64 - y); turns = (pos 0 -ℤ pos 0) +ℤ (pos ((x + 2 ^ 64 - y) / 2 ^ 64) -ℤ pos 1); is = difference_turns (pos x) (pos y) (pos 0) (pos 0) x y p q (omega (arith, ints)) (omega (arith, ints)) })
natural_congruent MulWrap x y p q = record { small = below_turn (x * y); turns = pos ((x * y) / 2 ^ 64); is = whole_turns (x * y) }

-- What 64 bits with signs make of a number is that number but for turns.
wrap_congruent : (z : ℤ) (w : ℕ) → w < 2 ^ 64 → cast_signed w64 w ≡ int_wrap w64 z → Congruent z w
unfolding int_wrap
wrap_congruent z w small e = by (int_rem_euclid z (pos (2 ^ 64))) refl
  where
    natural_rest : (z : ℤ) → (n : ℕ) × (n < 2 ^ 64) × (int_rem_euclid z (pos (2 ^ 64)) ≡ pos n)
    natural_rest (pos a) = (a % 2 ^ 64, omega arith, refl)
    natural_rest (negsuc a) = (2 ^ 64 - 1 - a % 2 ^ 64, omega arith, refl)

    by : (r : ℤ) → int_rem_euclid z (pos (2 ^ 64)) ≡ r → Congruent z w
    by r is =
        let n = natural_rest z in
        let same : cast_signed w64 w ≡ cast_signed w64 n.0 = e ∙ ap (λ r. cast_signed w64 (unsigned_abs r)) n.2 in
        let word : w ≡ n.0 = sym (of_z-to_z w64 w small) ∙ ap (cast_unsigned w64) same ∙ of_z-to_z w64 n.0 n.1 in
        record { small = small; turns = int_div_euclid z (pos (2 ^ 64)); is = turned z (2 ^ 64) (omega arith) ∙ ap (λ r. r +ℤ (int_div_euclid z (pos (2 ^ 64)) *ℤ pos (2 ^ 64))) (n.2 ∙ ap pos (sym word)) }

pub signed_congruent : (w : Wrapping) (a b : ℤ) → Wide a → Wide b → Congruent (exact w a b) (word_of w (bits64 a) (bits64 b))
signed_congruent AddWrap a b wa wb =
    let s = number_congruent a wa in
    let t = number_congruent b wb in
    record { small = below_turn (bits64 a + bits64 b); turns = (s.0 +ℤ t.0) +ℤ pos ((bits64 a + bits64 b) / 2 ^ 64); is = sum_turns a b s.0 t.0 (bits64 a) (bits64 b) s.1 t.1 }
signed_congruent SubWrap a b wa wb =
    let s = number_congruent a wa in
    let t = number_congruent b wb in
    let x : ℕ = bits64 a in
    let y : ℕ = bits64 b in
    let e : low I64 (low I64 x + 2 ^ 64 - low I64 y) ≡ (x + 2 ^ 64 - y) % 2 ^ 64 = λ i. low I64 (long_is x (bits_small a wa) i + 2 ^ 64 - long_is y (bits_small b wb) i) in
    subst (λ n. Congruent (a -ℤ b) n) (sym e)
    (record { small = below_turn (x + 2 ^ 64 - y); turns = (s.0 -ℤ t.0) +ℤ (pos ((x + 2 ^ 64 - y) / 2 ^ 64) -ℤ pos 1); is = difference_turns a b s.0 t.0 x y (bits_small a wa) (bits_small b wb) s.1 t.1 })
signed_congruent MulWrap a b wa wb =
    wrap_congruent (a *ℤ b) (low I64 (bits64 a * bits64 b)) (below_turn (bits64 a * bits64 b)) (wrapping_mul-bits w64 (bits64 a) (bits64 b) (bits_small a wa) (bits_small b wb) ∙ (λ i. int_wrap w64 (cast_back a wa i *ℤ cast_back b wb i)))

-- ---- the one value of a kind

natural_8 : (n z d t : ℤ) (w : ℕ) → pos 0 ≤ℤ n → n ≤ℤ pos 255 → z ≡ n +ℤ (t *ℤ pos 256) → z ≡ pos w +ℤ (d *ℤ pos (2 ^ 64)) → n ≡ pos (w % 256)
natural_8 n z d t w lo hi e f = omega (arith, ints, lo, hi, e, f)

natural_16 : (n z d t : ℤ) (w : ℕ) → pos 0 ≤ℤ n → n ≤ℤ pos 65535 → z ≡ n +ℤ (t *ℤ pos 65536) → z ≡ pos w +ℤ (d *ℤ pos (2 ^ 64)) → n ≡ pos (w % 65536)
natural_16 n z d t w lo hi e f = omega (arith, ints, lo, hi, e, f)

natural_32 : (n z d t : ℤ) (w : ℕ) → pos 0 ≤ℤ n → n ≤ℤ pos (2 ^ 32 - 1) → z ≡ n +ℤ (t *ℤ pos (2 ^ 32)) → z ≡ pos w +ℤ (d *ℤ pos (2 ^ 64)) → n ≡ pos (w % 2 ^ 32)
natural_32 n z d t w lo hi e f = omega (arith, ints, lo, hi, e, f)

natural_64 : (n z d t : ℤ) (w : ℕ) → w < 2 ^ 64 → pos 0 ≤ℤ n → n ≤ℤ pos (2 ^ 64 - 1) → z ≡ n +ℤ (t *ℤ pos (2 ^ 64)) → z ≡ pos w +ℤ (d *ℤ pos (2 ^ 64)) → n ≡ pos w
natural_64 n z d t w small lo hi e f = omega (arith, ints, small, lo, hi, e, f)

signed_8 : (n z d t : ℤ) (w : ℕ) → negsuc 127 ≤ℤ n → n ≤ℤ pos 127 → z ≡ n +ℤ (t *ℤ pos 256) → z ≡ pos w +ℤ (d *ℤ pos (2 ^ 64)) → n ≡ pos ((w + 128) % 2 ^ 64 % 256) -ℤ pos 128
signed_8 n z d t w lo hi e f = omega (arith, ints, lo, hi, e, f)

signed_16 : (n z d t : ℤ) (w : ℕ) → negsuc 32767 ≤ℤ n → n ≤ℤ pos 32767 → z ≡ n +ℤ (t *ℤ pos 65536) → z ≡ pos w +ℤ (d *ℤ pos (2 ^ 64)) → n ≡ pos ((w + 32768) % 2 ^ 64 % 65536) -ℤ pos 32768
signed_16 n z d t w lo hi e f = omega (arith, ints, lo, hi, e, f)

signed_32 : (n z d t : ℤ) (w : ℕ) → negsuc (2 ^ 31 - 1) ≤ℤ n → n ≤ℤ pos (2 ^ 31 - 1) → z ≡ n +ℤ (t *ℤ pos (2 ^ 32)) → z ≡ pos w +ℤ (d *ℤ pos (2 ^ 64)) → n ≡ pos ((w + 2 ^ 31) % 2 ^ 64 % 2 ^ 32) -ℤ pos (2 ^ 31)
signed_32 n z d t w lo hi e f = omega (arith, ints, lo, hi, e, f)

signed_64 : (n z d t : ℤ) (w : ℕ) → w < 2 ^ 64 → negsuc (2 ^ 63 - 1) ≤ℤ n → n ≤ℤ pos (2 ^ 63 - 1) → z ≡ n +ℤ (t *ℤ pos (2 ^ 64)) → z ≡ pos w +ℤ (d *ℤ pos (2 ^ 64)) → w ≡ bits64 n
signed_64 (pos n) z d t w small lo hi e f = omega (arith, ints, small, lo, hi, e, f)
signed_64 (negsuc n) z d t w small lo hi e f = omega (arith, ints, small, lo, hi, e, f)

-- ---- the words of wrapped results

masked : (w j : ℕ) → w < 2 ^ 64 → 2 ^ j - 1 < 2 ^ 64 → bit_and (low I64 w) (low I64 (2 ^ j - 1)) ≡ w % 2 ^ j
masked w j small few = (λ i. bit_and (long_is w small i) (long_is (2 ^ j - 1) few i)) ∙ and_mask w j

-- the part of a width without signs
abbrev pub natural_part : ℕ → ℕ → ℕ
natural_part w most = bit_and (low I64 w) (low I64 most)

abbrev pub signed_part : ℕ → ℕ → ℕ → ℕ
signed_part w h most = low I64 (low I64 (bit_and (low I64 (low I64 (w + h))) (low I64 most)) + 2 ^ 64 - low I64 h)

-- what is taken away again
lowered : (r h : ℕ) → r < 2 ^ 32 → h < 2 ^ 32 → low I64 (low I64 r + 2 ^ 64 - low I64 h) ≡ bits64 (pos r -ℤ pos h)
lowered r h p q = turned_exact (pos r -ℤ pos h) (low I64 (low I64 r + 2 ^ 64 - low I64 h)) (difference_word (pos r) (pos h) (omega (arith, p)) (omega (arith, q))) (wide_between (pos r -ℤ pos h) (omega (arith, ints, p, q)) (omega (arith, ints, p, q)))

signed_part_is : (w j h : ℕ) → 2 ^ j - 1 < 2 ^ 64 → 2 ^ j ≤ 2 ^ 32 → h < 2 ^ 32 → (w + h) % 2 ^ 64 % 2 ^ j < 2 ^ 32 → signed_part w h (2 ^ j - 1) ≡ bits64 (pos ((w + h) % 2 ^ 64 % 2 ^ j) -ℤ pos h)
signed_part_is w j h few narrow small less =
    let r : ℕ = low I64 (w + h) in
    let part : bit_and (low I64 r) (low I64 (2 ^ j - 1)) ≡ r % 2 ^ j = masked r j (omega arith) few in
    ap (λ n. low I64 (low I64 n + 2 ^ 64 - low I64 h)) part ∙ lowered (r % 2 ^ j) h less small

module _ (z : ℤ) (w : ℕ) (c : Congruent z w) where
  pub word_nat8 : natural_part w 255 ≡ bits64 (wrapped Nat8 z)
  word_nat8 = let i = is_wrapped Nat8 z in masked w 8 c.small (omega arith) ∙ sym (ap bits64 (natural_8 (wrapped Nat8 z) z c.turns i.turns w i.in_range.0 i.in_range.1 i.congruent c.is))

  pub word_nat16 : natural_part w 65535 ≡ bits64 (wrapped Nat16 z)
  word_nat16 = let i = is_wrapped Nat16 z in masked w 16 c.small (omega arith) ∙ sym (ap bits64 (natural_16 (wrapped Nat16 z) z c.turns i.turns w i.in_range.0 i.in_range.1 i.congruent c.is))

  pub word_nat32 : natural_part w 4294967295 ≡ bits64 (wrapped Nat32 z)
  word_nat32 = let i = is_wrapped Nat32 z in masked w 32 c.small (omega arith) ∙ sym (ap bits64 (natural_32 (wrapped Nat32 z) z c.turns i.turns w i.in_range.0 i.in_range.1 i.congruent c.is))

  pub word_nat64 : w ≡ bits64 (wrapped Nat64 z)
  word_nat64 = let i = is_wrapped Nat64 z in sym (ap bits64 (natural_64 (wrapped Nat64 z) z c.turns i.turns w c.small i.in_range.0 i.in_range.1 i.congruent c.is))

  pub word_int8 : signed_part w 128 255 ≡ bits64 (wrapped Int8 z)
  word_int8 = let i = is_wrapped Int8 z in signed_part_is w 8 128 (omega arith) (omega arith) (omega arith) (omega arith) ∙ sym (ap bits64 (signed_8 (wrapped Int8 z) z c.turns i.turns w i.in_range.0 i.in_range.1 i.congruent c.is))

  pub word_int16 : signed_part w 32768 65535 ≡ bits64 (wrapped Int16 z)
  word_int16 = let i = is_wrapped Int16 z in signed_part_is w 16 32768 (omega arith) (omega arith) (omega arith) (omega arith) ∙ sym (ap bits64 (signed_16 (wrapped Int16 z) z c.turns i.turns w i.in_range.0 i.in_range.1 i.congruent c.is))

  pub word_int32 : signed_part w 2147483648 4294967295 ≡ bits64 (wrapped Int32 z)
  word_int32 = let i = is_wrapped Int32 z in signed_part_is w 32 (2 ^ 31) (omega arith) (omega arith) (omega arith) (omega arith) ∙ sym (ap bits64 (signed_32 (wrapped Int32 z) z c.turns i.turns w i.in_range.0 i.in_range.1 i.congruent c.is))

  pub word_int64 : w ≡ bits64 (wrapped Int64 z)
  word_int64 = let i = is_wrapped Int64 z in signed_64 (wrapped Int64 z) z c.turns i.turns w c.small i.in_range.0 i.in_range.1 i.congruent c.is
