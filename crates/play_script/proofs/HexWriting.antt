-- Hexadecimal words are those that the library writes.
use Rattle.std.proofs.Common.{◌≡◌, ℕ, zero, suc, ◌/◌, ◌%◌, ◌<◌, ◌==◌, ◌&&◌, true, Bool, List, [], ◌∷◌, slice_index, inl, inr, refl, arith}
use Rattle.std.proofs.lemmas.Bool.{and_parts, cases_lt, eqb-true}
use Rattle.hex.specs.Hex.{IsBytes, encode_lower, encode_with, lower_digits}
use Rattle.play_script.specs.Numbers.{hex_digit, hex_text}

-- the first digits of the table are those of the numbers below
abbrev have_digits : ℕ → Bool
have_digits zero = true
have_digits (suc n) = (slice_index lower_digits n == hex_digit n) && have_digits n

digit_at : (n d : ℕ) → have_digits n ≡ true → d < n → slice_index lower_digits d ≡ hex_digit d
digit_at zero d h below = absurd (omega arith)
digit_at (suc n) d h below =
    let parts = and_parts (slice_index lower_digits n == hex_digit n) (have_digits n) h in
    elim (cases_lt d n) [
      | inl less ↦ digit_at n d parts.1 less
      | inr top ↦ let e : d ≡ n = omega arith in rw e (eqb-true (slice_index lower_digits n) (hex_digit n) parts.0)
    ]

pub same_text : (xs : List ℕ) → IsBytes xs → encode_lower xs ≡ hex_text xs
unfolding encode_with
same_text [] h = refl
same_text (b ∷ rest) h =
    let fits : b < 256 = h 0 in
    rw (digit_at 16 (b / 16) refl (omega arith), digit_at 16 (b % 16) refl (omega arith), same_text rest (λ k. h (suc k))) refl
