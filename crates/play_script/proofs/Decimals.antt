-- Decimal digits are written from the highest to the lowest.
use Rattle.std.proofs.Common.{◌≡◌, ℕ, ◌+◌, ◌-◌, ◌*◌, ◌/◌, ◌%◌, ◌<◌, ◌≤◌, List, [], ◌∷◌, ◌++◌, refl, ◌∙◌, ap, arith}
use Rattle.std.proofs.lemmas.List.{append_assoc}
use Rattle.std.specs.Char.{IsAsciiDigit}
use Rattle.std.specs.List.{AllByRecursion}
use Rattle.play_script.specs.Numbers.{IsDecimal, decimal_value, HasNoLeadingZero}

pub decimal_value-append : (high : ℕ) (xs : List ℕ) (c : ℕ) → decimal_value high (xs ++ c ∷ []) ≡ 10 * decimal_value high xs + (c - 48)
decimal_value-append high [] c = refl
decimal_value-append high (x ∷ xs) c = decimal_value-append (10 * high + (x - 48)) xs c

pub digits-append : (xs : List ℕ) (c : ℕ) → AllByRecursion IsAsciiDigit xs → IsAsciiDigit c → AllByRecursion IsAsciiDigit (xs ++ c ∷ [])
digits-append [] c hs h = (h, tt)
digits-append (x ∷ xs) c hs h = (hs.0, digits-append xs c hs.1 h)

plain-append : (xs : List ℕ) (c : ℕ) → HasNoLeadingZero xs → 0 < decimal_value 0 xs → HasNoLeadingZero (xs ++ c ∷ [])
plain-append [] c h above = absurd h
plain-append (x ∷ []) c h above = λ zero_digit. omega arith
plain-append (x ∷ y ∷ ys) c h above = h

-- one digit
pub decimal-digit : (n : ℕ) → n < 10 → IsDecimal ((48 + n) ∷ []) n
decimal-digit n h = record { digits = ((omega arith, omega arith), tt); value = omega arith; plain = tt }

-- a digit behind the digits of a number that is not 0
pub decimal-more : (front : List ℕ) (n : ℕ) → 10 ≤ n → IsDecimal front (n / 10) → IsDecimal (front ++ (48 + n % 10) ∷ []) n
decimal-more front n large h =
    let above : 0 < decimal_value 0 front = rw h.value (omega arith) in
    record {
      digits = digits-append front (48 + n % 10) h.digits (omega arith, omega arith);
      value = rw (decimal_value-append, h.value) (omega arith);
      plain = plain-append front (48 + n % 10) h.plain above;
    }

-- the same, as what a writer adds
pub decimal-put : (n : ℕ) (old middle new : List ℕ) → 10 ≤ n
    → ((digits : List ℕ) × IsDecimal digits (n / 10) × (middle ≡ old ++ digits))
    → new ≡ middle ++ (48 + n % 10) ∷ []
    → (digits : List ℕ) × IsDecimal digits n × (new ≡ old ++ digits)
decimal-put n old middle new large h e = (
  h.0 ++ (48 + n % 10) ∷ [],
  decimal-more h.0 n large h.1,
  e ∙ ap (λ xs. xs ++ (48 + n % 10) ∷ []) h.2 ∙ append_assoc old h.0 ((48 + n % 10) ∷ []),
)
