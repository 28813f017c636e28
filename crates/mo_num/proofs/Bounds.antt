-- How many bytes a number takes: spellings of at most so many bytes.
use Rattle.std.proofs.Common.{◌≡◌, ℕ, ◌+◌, ◌*◌, ◌<◌, ◌≤◌, ◌-◌, ◌/◌, ◌%◌, List, [], ◌∷◌, length, arith, refl, inl, inr, zero, suc, ℤ, pos, negsuc, ◌+ℤ◌, ◌*ℤ◌, ◌≤ℤ◌, ◌<ℤ◌}
use Rattle.std.proofs.lemmas.Int.{ints}
use Rattle.std.proofs.lemmas.Bool.{cases_lt}
use Rattle.mo_num.specs.Leb.{IsLeb, IsSleb}
use Rattle.mo_num.proofs.Digits.{leb_more_spells, sleb_more_spells}

-- what k + 1 digits hold, unsigned
abbrev pub cap : ℕ → ℕ
cap zero = 128
cap (suc k) = 128 * cap k

leb_within_more : (k n : ℕ) (rest : List ℕ) → IsLeb rest (n / 128) → length rest ≤ k → 128 ≤ n → (bytes : List ℕ) × IsLeb bytes n × (length bytes ≤ suc k)
leb_within_more k n rest h le big =
    let lo : 128 ≤ n % 128 + 128 = omega arith in
    let hi : n % 128 + 128 < 256 = omega arith in
    let e : n + 128 ≡ (n % 128 + 128) + 128 * (n / 128) = omega arith in
    ((n % 128 + 128) ∷ rest, leb_more_spells _ _ _ rest lo hi e h, omega arith)

pub leb_within : (k n : ℕ) → n < cap k → (bytes : List ℕ) × IsLeb bytes n × (length bytes ≤ suc k)
leb_within zero n h = (n ∷ [], (h, refl), omega arith)
leb_within (suc k) n h = elim (cases_lt n 128) [
  | inl small ↦ (n ∷ [], (small, refl), omega arith)
  | inr big ↦
      let less : n / 128 < cap k = omega arith in
      let rest : (bytes : List ℕ) × IsLeb bytes (n / 128) × (length bytes ≤ suc k) = leb_within k (n / 128) less in
      leb_within_more (suc k) n rest.0 rest.1 rest.2 big
]

-- half of that: what k + 1 digits hold on each side of zero
abbrev pub half : ℕ → ℕ
half zero = 64
half (suc k) = 128 * half k

abbrev pub IsWithin : ℕ → ℤ → Type 0
IsWithin h n = (pos 0 ≤ℤ (n +ℤ pos h)) × (n <ℤ pos h)

low_digit_of : (n : ℤ) → (d : ℕ) × (high : ℤ) × (d < 128) × (n ≡ pos d +ℤ (pos 128 *ℤ high))
low_digit_of (pos a) = (a % 128, pos (a / 128), omega arith, omega (arith, ints))
low_digit_of (negsuc a) = (127 - a % 128, negsuc (a / 128), omega arith, omega (arith, ints))

within_high : (h : ℕ) (n high : ℤ) (d : ℕ) → d < 128 → n ≡ pos d +ℤ (pos 128 *ℤ high) → IsWithin (128 * h) n → IsWithin h high
within_high h n high d d_lo e w = (omega (arith, ints), omega (arith, ints))

sleb_within_one : (n : ℤ) → IsWithin 64 n → (bytes : List ℕ) × IsSleb bytes n × (length bytes ≤ 1)
sleb_within_one (pos a) w = (a ∷ [], inl (omega (arith, ints), refl), omega arith)
sleb_within_one (negsuc a) w = ((127 - a) ∷ [], inr (omega (arith, ints), omega (arith, ints), omega (arith, ints)), omega arith)

pub sleb_within : (k : ℕ) (n : ℤ) → IsWithin (half k) n → (bytes : List ℕ) × IsSleb bytes n × (length bytes ≤ suc k)
sleb_within zero n w = sleb_within_one n w
sleb_within (suc k) n w =
    let d : (d : ℕ) × (high : ℤ) × (d < 128) × (n ≡ pos d +ℤ (pos 128 *ℤ high)) = low_digit_of n in
    let rest : (bytes : List ℕ) × IsSleb bytes d.1 × (length bytes ≤ suc k) = sleb_within k d.1 (within_high (half k) n d.1 d.0 d.2 d.3 w) in
    let lo : 128 ≤ d.0 + 128 = omega arith in
    let hi : d.0 + 128 < 256 = omega arith in
    let e : n +ℤ pos 128 ≡ pos (d.0 + 128) +ℤ (pos 128 *ℤ d.1) = omega (arith, ints, d.3) in
    ((d.0 + 128) ∷ rest.0, sleb_more_spells _ _ _ rest.0 lo hi e rest.1, omega arith)

-- A smaller number has a spelling that is no longer.
pub leb_smaller : (n m : ℕ) (other : List ℕ) → n ≤ m → IsLeb other m → (bytes : List ℕ) × IsLeb bytes n × (length bytes ≤ length other)
leb_smaller n m [] le h = absurd h
leb_smaller n m (o ∷ []) le h = (n ∷ [], (omega arith, refl), omega arith)
leb_smaller n m (o ∷ p ∷ os) le h = elim (cases_lt n 128) [
  | inl small ↦ (n ∷ [], (small, refl), omega arith)
  | inr big ↦
      let less : n / 128 ≤ h.2 = omega arith in
      let rest : (bytes : List ℕ) × IsLeb bytes (n / 128) × (length bytes ≤ length (p ∷ os)) = leb_smaller (n / 128) h.2 (p ∷ os) less h.4 in
      leb_within_more (length (p ∷ os)) n rest.0 rest.1 rest.2 big
]
