-- Decimal digits are read from the highest to the lowest.
use Rattle.std.proofs.Common.{◌≡◌, ℕ, zero, suc, ◌+◌, ◌-◌, ◌*◌, ◌<◌, ◌≤◌, ◌^◌, List, [], ◌∷◌, length, take, drop, get_or, refl, sym, ap, ◌∙◌, subst, arith, add-one}
use Rattle.std.proofs.lemmas.List.{take_more, take_all, drop_all}
use Rattle.std.proofs.Math.Seq.{drop-cons}
use Rattle.std.specs.Char.{IsAsciiDigit}
use Rattle.std.specs.List.{AllByRecursion}
use Rattle.play_script.specs.Numbers.{decimal_value, HasNoLeadingZero}
use Rattle.play_script.specs.Words.{IsNumber}
use Rattle.play_script.proofs.Decimals.{digits-append}

-- the first i digits are read, and have this value
pub record ReadsDigits (word : List ℕ) (i value : ℕ) : Type 0 where
  pub digits : AllByRecursion IsAsciiDigit (take i word)
  pub worth : decimal_value 0 word ≡ decimal_value value (drop i word)
  pub small : value < 2 ^ 64

pub digits_none : (word : List ℕ) → ReadsDigits word 0 0
digits_none word = record { digits = tt; worth = refl; small = omega arith }

-- the value of the rest begins with its first digit
worth_rest : (word : List ℕ) (i value : ℕ) → i < length word → decimal_value value (drop i word) ≡ decimal_value (10 * value + (get_or word i 0 - 48)) (drop (i + 1) word)
worth_rest word i value below = ap (λ (l : List ℕ). decimal_value value l) (drop-cons word i 0 below) ∙ ap (λ n. decimal_value (10 * value + (get_or word i 0 - 48)) (drop n word)) (sym (add-one i))

pub digits_more : (word : List ℕ) (i value more : ℕ) → ReadsDigits word i value → i < length word → IsAsciiDigit (get_or word i 0) → more ≡ 10 * value + (get_or word i 0 - 48) → more < 2 ^ 64
    → ReadsDigits word (i + 1) more
digits_more word i value more reads below digit is fits = record {
  digits = subst (λ (l : List ℕ). AllByRecursion IsAsciiDigit l) (sym (take_more word i 0 below)) (digits-append (take i word) (get_or word i 0) reads.digits digit);
  worth = reads.worth ∙ worth_rest word i value below ∙ ap (λ n. decimal_value n (drop (i + 1) word)) (sym is);
  small = fits;
}

digit_at : (word : List ℕ) (i : ℕ) → AllByRecursion IsAsciiDigit word → i < length word → IsAsciiDigit (get_or word i 0)
digit_at [] i all below = absurd (omega arith)
digit_at (c ∷ cs) zero all below = all.0
digit_at (c ∷ cs) (suc i) all below = digit_at cs i all.1 (omega arith)

grows : (high : ℕ) (cs : List ℕ) → high ≤ decimal_value high cs
grows high [] = omega arith
grows high (c ∷ cs) = omega (arith, grows (10 * high + (c - 48)) cs)

-- no number below 2^64 goes on so
pub digits_refused : (word : List ℕ) (i value : ℕ) → ReadsDigits word i value → i < length word → (IsAsciiDigit (get_or word i 0) → 2 ^ 64 ≤ 10 * value + (get_or word i 0 - 48))
    → (n : ℕ) → IsNumber word n → ⊥
digits_refused word i value reads below large n is =
    let high : 2 ^ 64 ≤ 10 * value + (get_or word i 0 - 48) = large (digit_at word i is.decimal.digits below) in
    let worth : n ≡ decimal_value (10 * value + (get_or word i 0 - 48)) (drop (i + 1) word) = sym is.decimal.value ∙ reads.worth ∙ worth_rest word i value below in
    let small : n < 2 ^ 64 = is.small in
    omega (arith, grows (10 * value + (get_or word i 0 - 48)) (drop (i + 1) word))

pub digits_all : (word : List ℕ) (i value : ℕ) → ReadsDigits word i value → length word ≤ i → HasNoLeadingZero word → IsNumber word value
digits_all word i value reads all plain = record {
  decimal = record {
    digits = subst (λ (l : List ℕ). AllByRecursion IsAsciiDigit l) (take_all i word all) reads.digits;
    value = reads.worth ∙ ap (λ (l : List ℕ). decimal_value value l) (drop_all i word all);
    plain = plain;
  };
  small = reads.small;
}
