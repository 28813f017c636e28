-- One text for each principal, and one principal for each text.
use Rattle.std.proofs.Common.{◌≡◌, ℕ, zero, suc, ◌+◌, ◌-◌, ◌*◌, ◌^◌, ◌<◌, ◌≤◌, ◌/◌, ◌%◌, List, [], ◌∷◌, ◌++◌, length, refl, sym, ap, subst, ◌∙◌, arith, length-append}
use Rattle.std.specs.List.{AllByRecursion}
use Rattle.std.proofs.Math.Nat.{pow-suc, pow-zero, mul-le-mul_right}
use Rattle.std.proofs.Math.Pow.{pow-add}
use Rattle.std.proofs.lemmas.Nat.{pow_pos}
use Rattle.mo_num.specs.PrincipalText.{IsPrincipal, IsBase32, IsTextOf, with_checksum, number, shown}
use Rattle.mo_num.proofs.Numbers.{number_one, number_more, number_below}
use Rattle.mo_num.proofs.PrincipalTexts.{shown_one, base32_one, checksum_below, checksum_parts}

pub principal_one : (p q text : List ℕ) → IsPrincipal p → IsPrincipal q → IsTextOf p text → IsTextOf q text → p ≡ q
principal_one p q text h k s t =
    let d : s.digits ≡ t.digits = shown_one s.digits t.digits s.spelled.below t.spelled.below (sym s.text_is ∙ t.text_is) in
    let x : IsBase32 (with_checksum p) t.digits = subst (λ l. IsBase32 (with_checksum p) l) d s.spelled in
    let e : with_checksum p ≡ with_checksum q = base32_one (with_checksum p) (with_checksum q) t.digits (checksum_below p h.1) (checksum_below q k.1) x t.spelled in
    sym (checksum_parts (with_checksum p) p refl).1 ∙ (checksum_parts (with_checksum p) q e).1

pub text_one : (p s t : List ℕ) → IsTextOf p s → IsTextOf p t → s ≡ t
text_one p s t x y =
    let len : length x.digits ≡ length y.digits = omega (arith, x.spelled.filled, y.spelled.filled, x.spelled.few, y.spelled.few) in
    let pad : x.spelled.padding ≡ y.spelled.padding = omega (arith, x.spelled.filled, y.spelled.filled, len) in
    let n : number 32 x.digits ≡ number 32 y.digits = x.spelled.same ∙ ap (λ k. number 256 (with_checksum p) * 2 ^ k) pad ∙ sym y.spelled.same in
    let d : x.digits ≡ y.digits = number_one 32 x.digits y.digits len x.spelled.below y.spelled.below n in
    x.text_is ∙ ap shown d ∙ sym y.text_is

-- A number below the power has so many digits.
digits_more : (xs : List ℕ) (d : ℕ) → AllByRecursion (λ x. x < 32) xs → d < 32 → AllByRecursion (λ x. x < 32) (xs ++ d ∷ [])
digits_more [] d h k = (k, tt)
digits_more (x ∷ xs) d h k = (h.0, digits_more xs d h.1 k)

some_digits : (k n : ℕ) → n < 32 ^ k → (ds : List ℕ) × (length ds ≡ k) × AllByRecursion (λ d. d < 32) ds × (number 32 ds ≡ n)
some_digits zero n h = ([], refl, tt, omega (arith, h, pow-zero 32))
some_digits (suc k) n h =
    let less : n / 32 < 32 ^ k = omega (arith, h, pow-suc 32 k) in
    let r : (ds : List ℕ) × (length ds ≡ k) × AllByRecursion (λ d. d < 32) ds × (number 32 ds ≡ n / 32) = some_digits k (n / 32) less in (
      r.0 ++ n % 32 ∷ [],
      omega (arith, length-append r.0 (n % 32 ∷ []), r.1),
      digits_more r.0 (n % 32) r.2 (omega arith),
      omega (arith, number_more 32 r.0 (n % 32), r.3),
    )

-- Digits and bytes in bits.
digits_bits : (k : ℕ) → 32 ^ k ≡ 2 ^ (5 * k)
digits_bits zero = refl
digits_bits (suc k) =
    let e : 5 * suc k ≡ 5 * k + 5 = omega arith in
    let p : 2 ^ (5 * suc k) ≡ 2 ^ (5 * k) * 32 = ap (λ n. 2 ^ n) e ∙ pow-add 2 (5 * k) 5 in
    let rest : 32 ^ k ≡ 2 ^ (5 * k) = digits_bits k in
    omega (arith, pow-suc 32 k, p, rest)

bytes_bits : (k : ℕ) → 256 ^ k ≡ 2 ^ (8 * k)
bytes_bits zero = refl
bytes_bits (suc k) =
    let e : 8 * suc k ≡ 8 * k + 8 = omega arith in
    let p : 2 ^ (8 * suc k) ≡ 2 ^ (8 * k) * 256 = ap (λ n. 2 ^ n) e ∙ pow-add 2 (8 * k) 8 in
    let rest : 256 ^ k ≡ 2 ^ (8 * k) = bytes_bits k in
    omega (arith, pow-suc 256 k, p, rest)

-- The bits of so many bytes, and those that fill the last digit.
fits_digits : (xs : List ℕ) (count padding : ℕ) → AllByRecursion (λ b. b < 256) xs → 5 * count ≡ 8 * length xs + padding → number 256 xs * 2 ^ padding < 32 ^ count
fits_digits xs count padding h e =
    let below : number 256 xs < 256 ^ length xs = number_below 256 xs h in
    let wide : 256 ^ length xs ≡ 2 ^ (8 * length xs) = bytes_bits (length xs) in
    let some : 0 < 2 ^ padding = pow_pos padding in
    let m : suc (number 256 xs) * 2 ^ padding ≤ 2 ^ (8 * length xs) * 2 ^ padding = mul-le-mul_right (2 ^ padding) (omega (arith, below, wide)) in
    let all : 32 ^ count ≡ 2 ^ (8 * length xs) * 2 ^ padding = digits_bits count ∙ ap (λ n. 2 ^ n) e ∙ pow-add 2 (8 * length xs) padding in
    omega (arith, m, all, some)

base32_some : (xs : List ℕ) → AllByRecursion (λ b. b < 256) xs → (ds : List ℕ) × IsBase32 xs ds
base32_some xs h =
    let count : ℕ = (8 * length xs + 4) / 5 in
    let padding : ℕ = 5 * count - 8 * length xs in
    let e : 5 * ((8 * length xs + 4) / 5) ≡ 8 * length xs + (5 * ((8 * length xs + 4) / 5) - 8 * length xs) = omega arith in
    let r : (ds : List ℕ) × (length ds ≡ count) × AllByRecursion (λ d. d < 32) ds × (number 32 ds ≡ number 256 xs * 2 ^ padding) = some_digits count (number 256 xs * 2 ^ padding) (fits_digits xs count padding h e) in
    (r.0, record { below = r.2; padding = padding; few = omega arith; filled = omega (arith, e, r.1); same = r.3 })

pub text_some : (p : List ℕ) → IsPrincipal p → (text : List ℕ) × IsTextOf p text
text_some p h =
    let r : (ds : List ℕ) × IsBase32 (with_checksum p) ds = base32_some (with_checksum p) (checksum_below p h.1) in
    (shown r.0, record { digits = r.0; spelled = r.1; text_is = refl })
