-- Numbers written in a base.
use Rattle.std.proofs.Common.{◌≡◌, ℕ, zero, suc, ◌+◌, ◌-◌, ◌*◌, ◌^◌, ◌<◌, ◌≤◌, ◌/◌, ◌%◌, List, [], ◌∷◌, ◌++◌, length, get_or, refl, sym, ap, subst, ◌∙◌, arith, inl, inr, length-append}
use Rattle.std.specs.List.{AllByRecursion}
use Rattle.std.proofs.lemmas.Bool.{cases_order}
use Rattle.std.proofs.lemmas.Nat.{pow_pos}
use Rattle.std.proofs.Math.Nat.{pow-suc, pow-zero, mul-le-mul_right, div-lt_iff_lt-mul}
use Rattle.std.proofs.Math.Pow.{pow-add, pow_mono}
use Rattle.mo_num.specs.PrincipalText.{number, IsBase32}

-- One more digit at the end.
pub number_more : (base : ℕ) (xs : List ℕ) (d : ℕ) → number base (xs ++ d ∷ []) ≡ number base xs * base + d
number_more base [] d = omega (arith, pow-zero base, ap (λ p. d * p) (pow-zero base))
number_more base (x ∷ xs) d =
    let len : length (xs ++ d ∷ []) ≡ suc (length xs) = omega (arith, length-append xs (d ∷ [])) in
    let p : base ^ length (xs ++ d ∷ []) ≡ base ^ length xs * base = ap (λ n. base ^ n) len ∙ pow-suc base (length xs) in
    let q : x * base ^ length (xs ++ d ∷ []) ≡ x * (base ^ length xs * base) = ap (λ n. x * n) p in
    let rest : number base (xs ++ d ∷ []) ≡ number base xs * base + d = number_more base xs d in
    omega (arith, q, rest)

pub number_below : (base : ℕ) (xs : List ℕ) → AllByRecursion (λ d. d < base) xs → number base xs < base ^ length xs
number_below base [] h = omega (arith, pow-zero base)
number_below base (x ∷ xs) h =
    let rest : number base xs < base ^ length xs = number_below base xs h.1 in
    let m : suc x * base ^ length xs ≤ base * base ^ length xs = mul-le-mul_right (base ^ length xs) h.0 in
    omega (arith, rest, m, pow-suc base (length xs))

apart : (x y n m p : ℕ) → n < p → x < y → x * p + n ≡ y * p + m → ⊥
apart x y n m p small less e = let k : suc x * p ≤ y * p = mul-le-mul_right p less in omega (arith, k, small, e)

pub digit_one : (x y n m p : ℕ) → n < p → m < p → x * p + n ≡ y * p + m → x ≡ y
digit_one x y n m p hn hm e = elim (cases_order x y) [
  | inl same ↦ same
  | inr other ↦ (elim other [ inl less ↦ absurd (apart x y n m p hn less e) | inr more ↦ absurd (apart y x m n p hm more (sym e)) ])
]

-- So many digits write a number in one way.
pub number_one : (base : ℕ) (xs ys : List ℕ) → length xs ≡ length ys → AllByRecursion (λ d. d < base) xs → AllByRecursion (λ d. d < base) ys → number base xs ≡ number base ys → xs ≡ ys
number_one base [] [] e h k same = refl
number_one base [] (y ∷ ys) e h k same = absurd (omega arith)
number_one base (x ∷ xs) [] e h k same = absurd (omega arith)
number_one base (x ∷ xs) (y ∷ ys) e h k same =
    let len : length xs ≡ length ys = omega arith in
    let p : base ^ length xs ≡ base ^ length ys = ap (λ n. base ^ n) len in
    let q : y * base ^ length ys ≡ y * base ^ length xs = ap (λ n. y * n) (sym p) in
    let a : number base xs < base ^ length xs = number_below base xs h.1 in
    let b : number base ys < base ^ length xs = omega (arith, p, number_below base ys k.1) in
    let x_is : x ≡ y = digit_one x y (number base xs) (number base ys) (base ^ length xs) a b (omega (arith, same, q)) in
    let r : x * base ^ length xs ≡ y * base ^ length xs = ap (λ n. n * base ^ length xs) x_is in
    let rest : xs ≡ ys = number_one base xs ys len h.1 k.1 (omega (arith, same, q, r)) in
    cc

-- The bytes so far and fewer than eight bits write the bits of the digits so far.
pub record Writes (bytes digits : List ℕ) (pending count : ℕ) : Type 0 where
  pub same : number 256 bytes * 2 ^ count + pending ≡ number 32 digits
  pub filled : 8 * length bytes + count ≡ 5 * length digits
  pub few : count < 8
  pub small : pending < 2 ^ count
  pub below : AllByRecursion (λ b. b < 256) bytes

pub bytes_more : (xs : List ℕ) (b : ℕ) → AllByRecursion (λ x. x < 256) xs → b < 256 → AllByRecursion (λ x. x < 256) (xs ++ b ∷ [])
bytes_more [] b h k = (k, tt)
bytes_more (x ∷ xs) b h k = (h.0, bytes_more xs b h.1 k)

pub writes_none : Writes [] [] 0 0
writes_none = record { below = tt; same = refl; filled = refl; few = omega arith; small = omega arith }

pub small_pending : (pending count : ℕ) → pending < 2 ^ count → count < 8 → pending < 128
small_pending pending count h few =
    let less : count ≤ 7 = omega arith in
    let p : 2 ^ count ≤ 2 ^ 7 = pow_mono less in
    omega (arith, h, p)

pub below_at : (bound : ℕ) (xs : List ℕ) (i : ℕ) → AllByRecursion (λ d. d < bound) xs → i < length xs → get_or xs i 0 < bound
below_at bound [] i h lt = absurd (omega arith)
below_at bound (x ∷ xs) zero h lt = h.0
below_at bound (x ∷ xs) (suc i) h lt = below_at bound xs i h.1 (omega arith)

-- A digit that fills no byte.
pub writes_kept : (bytes digits : List ℕ) (pending count d : ℕ) → Writes bytes digits pending count → d < 32 → count < 3 → Writes bytes (digits ++ d ∷ []) (pending * 32 + d) (count + 5)
writes_kept bytes digits pending count d w small few =
    let p : 2 ^ (count + 5) ≡ 2 ^ count * 32 = pow-add 2 count 5 in
    let q : number 256 bytes * 2 ^ (count + 5) ≡ number 256 bytes * (2 ^ count * 32) = ap (λ n. number 256 bytes * n) p in
    record {
      same = omega (arith, q, w.same, number_more 32 digits d);
      filled = omega (arith, w.filled, length-append digits (d ∷ []));
      few = omega arith;
      small = omega (arith, p, w.small);
      below = w.below;
    }

-- The byte that a digit fills.
pub filled_byte : (pending count d : ℕ) → pending < 2 ^ count → d < 32 → 3 ≤ count → (pending * 32 + d) / 2 ^ (count - 3) < 256
filled_byte pending count d h small many =
    let some : 0 < 2 ^ (count - 3) = pow_pos (count - 3) in
    let c : count ≡ count - 3 + 3 = omega arith in
    let p : 2 ^ count ≡ 2 ^ (count - 3) * 8 = ap (λ n. 2 ^ n) c ∙ pow-add 2 (count - 3) 3 in
    (div-lt_iff_lt-mul {k = 2 ^ (count - 3)} {x = pending * 32 + d} {y = 256} some).1 (omega (arith, p, h))

-- A digit that fills a byte.
pub writes_byte : (bytes digits : List ℕ) (pending count d : ℕ) → Writes bytes digits pending count → d < 32 → 3 ≤ count → Writes (bytes ++ (pending * 32 + d) / 2 ^ (count - 3) ∷ []) (digits ++ d ∷ []) ((pending * 32 + d) % 2 ^ (count - 3)) (count - 3)
writes_byte bytes digits pending count d w small many =
    let some : 0 < 2 ^ (count - 3) = pow_pos (count - 3) in
    let c : count ≡ count - 3 + 3 = omega arith in
    let p : 2 ^ count ≡ 2 ^ (count - 3) * 8 = ap (λ n. 2 ^ n) c ∙ pow-add 2 (count - 3) 3 in
    let q : number 256 bytes * 2 ^ count ≡ number 256 bytes * (2 ^ (count - 3) * 8) = ap (λ n. number 256 bytes * n) p in
    let more : number 256 (bytes ++ (pending * 32 + d) / 2 ^ (count - 3) ∷ []) ≡ number 256 bytes * 256 + (pending * 32 + d) / 2 ^ (count - 3) = number_more 256 bytes _ in
    let product : number 256 (bytes ++ (pending * 32 + d) / 2 ^ (count - 3) ∷ []) * 2 ^ (count - 3) ≡ (number 256 bytes * 256 + (pending * 32 + d) / 2 ^ (count - 3)) * 2 ^ (count - 3) = ap (λ n. n * 2 ^ (count - 3)) more in
    record {
      same = omega (arith, q, product, w.same, number_more 32 digits d);
      filled = omega (arith, w.filled, length-append digits (d ∷ []), length-append bytes ((pending * 32 + d) / 2 ^ (count - 3) ∷ []));
      few = omega (arith, w.few);
      small = omega arith;
      below = bytes_more bytes _ w.below (filled_byte pending count d w.small small many);
    }

-- The digits end in fewer than five bits 0.
pub writes_all : (bytes digits : List ℕ) (count : ℕ) → Writes bytes digits 0 count → count < 5 → AllByRecursion (λ d. d < 32) digits → IsBase32 bytes digits
writes_all bytes digits count w few below = record {
  below = below;
  padding = count;
  few = few;
  filled = omega (arith, w.filled);
  same = omega (arith, w.same);
}

-- Otherwise no bytes are written so, and where they are it is these.
pub writes_end : (bytes digits other : List ℕ) (pending count : ℕ) → Writes bytes digits pending count → IsBase32 other digits → (pending ≡ 0) × (count < 5) × (number 256 bytes ≡ number 256 other) × (length bytes ≡ length other)
writes_end bytes digits other pending count w b =
    let c : count ≡ b.padding = omega (arith, w.filled, b.filled, w.few, b.few) in
    let len : length bytes ≡ length other = omega (arith, w.filled, b.filled, w.few, b.few) in
    let p : number 256 other * 2 ^ b.padding ≡ number 256 other * 2 ^ count = ap (λ k. number 256 other * 2 ^ k) (sym c) in
    let e : number 256 bytes * 2 ^ count + pending ≡ number 256 other * 2 ^ count + 0 = omega (arith, w.same, b.same, p) in
    let n : number 256 bytes ≡ number 256 other = digit_one _ _ pending 0 (2 ^ count) w.small (pow_pos count) e in
    let q : number 256 bytes * 2 ^ count ≡ number 256 other * 2 ^ count = ap (λ k. k * 2 ^ count) n in
    (omega (arith, e, q), omega (arith, c, b.few), n, len)

-- The same at equal values.
pub writes_same : (bytes bytes' digits digits' : List ℕ) (pending pending' count count' : ℕ) → bytes' ≡ bytes → digits' ≡ digits → pending' ≡ pending → count' ≡ count → Writes bytes digits pending count → Writes bytes' digits' pending' count'
writes_same bytes bytes' digits digits' pending pending' count count' b d p c w =
    subst (λ x. Writes x digits' pending' count') (sym b) (subst (λ x. Writes bytes x pending' count') (sym d) (subst (λ x. Writes bytes digits x count') (sym p) (subst (λ x. Writes bytes digits pending x) (sym c) w)))

-- `1 << count` of the code.
pub unit_is : (count : ℕ) → count < 8 → 1 * 2 ^ (count - 3) % 2 ^ 32 ≡ 2 ^ (count - 3)
unit_is count few =
    let less : count - 3 ≤ 7 = omega arith in
    let p : 2 ^ (count - 3) ≤ 2 ^ 7 = pow_mono less in
    omega (arith, p)
