-- Numerals.
use Rattle.std.proofs.Common.{◌≡◌, ℕ, ◌+◌, ◌*◌, ◌/◌, ◌%◌, ◌<◌, ◌≤◌, true, false, List, [], ◌∷◌, ◌++◌, refl, sym, ap, ◌∙◌, arith, append_assoc}
use Rattle.std.specs.Prelude.{if◌then◌else◌, ◌==◌, ◌&&◌, nat_lt}
use Rattle.std.specs.List.{list_all}
use Rattle.std.specs.Char.{digit_value, digit_char}
use Rattle.std.proofs.lemmas.Bool.{eqb-true, ltb-true, lt-ltb}
use Rattle.std.proofs.lemmas.List.Folds.{list_all-append}
use Rattle.std.proofs.lemmas.Str.{digit_value-digit_char}
use Rattle.mo_syntax.specs.Characters.{is_digit, begins, begins_low_digit, goes_on, are_digits, is_numeral, value_after, value_of}
use Rattle.mo_lexer.proofs.Tools.{and_true, and_of, or_left, tested, if_false}
use Rattle.mo_unparse.specs.Spelling.{Numeral, AddsNumeral}
use Rattle.mo_unparse.proofs.ByteLemmas.{AreLow, low_from, digit_low}

pub digit_char_is : (base d : ℕ) → d < base → base ≤ 36 → is_digit base (digit_char d) ≡ true
digit_char_is base d h most = ap (λ v. nat_lt v base) (digit_value-digit_char d (omega arith)) ∙ lt-ltb d base h

-- `_` is no digit
digit_other : (base b : ℕ) → base ≤ 36 → is_digit base b ≡ true → (b == 95) ≡ false
digit_other base b most h = tested (b == 95)
    (λ same. let e : digit_value b ≡ 36 = ap digit_value (eqb-true b 95 same) in let d : digit_value b < base = ltb-true (digit_value b) base h in absurd (omega arith))
    (λ differs. differs)

value_push : (base value : ℕ) (xs : List ℕ) (b : ℕ) → (b == 95) ≡ false → value_after base value (xs ++ b ∷ []) ≡ value_after base value xs * base + digit_value b
value_push base value [] b h = if_false (b == 95) value (value * base + digit_value b) h
value_push base value (x ∷ xs) b h = value_push base (if x == 95 then value else value * base + digit_value x) xs b h

begins_push : (base : ℕ) (xs : List ℕ) (b : ℕ) → begins (is_digit base) xs ≡ true → begins (is_digit base) (xs ++ b ∷ []) ≡ true
begins_push base [] b h = absurd (cc)
begins_push base (x ∷ xs) b h = h

one : (base value : ℕ) → base ≤ 36 → value < base → Numeral base value (digit_char value ∷ [])
one base value most h =
    let is = digit_char_is base value h most in
    let read : value_of base (digit_char value ∷ []) ≡ 0 * base + digit_value (digit_char value) = if_false (digit_char value == 95) 0 (0 * base + digit_value (digit_char value)) (digit_other base (digit_char value) most is) in
    let d : digit_value (digit_char value) ≡ value = digit_value-digit_char value (omega arith) in
    record { some = is; digits = and_of (is_digit base (digit_char value)) true is refl; value_is = omega arith }

more : (base value : ℕ) (text : List ℕ) → 2 ≤ base → base ≤ 36 → Numeral base (value / base) text → Numeral base value (text ++ digit_char (value % base) ∷ [])
more base value text least most n =
    let small : value % base < base = omega arith in
    let is = digit_char_is base (value % base) small most in
    let read : value_of base (text ++ digit_char (value % base) ∷ []) ≡ value_of base text * base + digit_value (digit_char (value % base)) = value_push base 0 text (digit_char (value % base)) (digit_other base (digit_char (value % base)) most is) in
    let d : digit_value (digit_char (value % base)) ≡ value % base = digit_value-digit_char (value % base) (omega arith) in
    let front : value_of base text * base ≡ (value / base) * base = ap (λ v. v * base) (sym n.value_is) in
    let whole : (value / base) * base + value % base ≡ value = omega arith in
    record {
      some = begins_push base text (digit_char (value % base)) n.some;
      digits = list_all-append (is_digit base) text (digit_char (value % base) ∷ []) ∙ and_of (list_all (is_digit base) text) (is_digit base (digit_char (value % base)) && true) n.digits (and_of (is_digit base (digit_char (value % base))) true is refl);
      value_is = omega arith;
    }

pub adds_one : (base value : ℕ) (old new : List ℕ) → base ≤ 36 → value < base → new ≡ old ++ digit_char value ∷ [] → AddsNumeral base value old new
adds_one base value old new most h e = record { text = digit_char value ∷ []; added = e; numeral = one base value most h }

pub adds_more : (base value : ℕ) (old mid new : List ℕ) → 2 ≤ base → base ≤ 36 → AddsNumeral base (value / base) old mid → new ≡ mid ++ digit_char (value % base) ∷ [] → AddsNumeral base value old new
adds_more base value old mid new least most a e = record {
  text = a.text ++ digit_char (value % base) ∷ [];
  added = e ∙ ap (λ l. l ++ digit_char (value % base) ∷ []) a.added ∙ append_assoc old a.text (digit_char (value % base) ∷ []);
  numeral = more base value a.text least most a.numeral;
}

pub numeral_low : (base value : ℕ) (text : List ℕ) → base ≤ 36 → Numeral base value text → AreLow text
numeral_low base value text most n = low_from (is_digit base) text (λ b. digit_low base b most) n.digits

digits_numeral : (base : ℕ) (text : List ℕ) → list_all (is_digit base) text ≡ true → are_digits base text ≡ true
digits_numeral base [] h = refl
digits_numeral base (b ∷ text) h =
    let both = and_true (is_digit base b) (list_all (is_digit base) text) h in
    and_of (goes_on base (b ∷ text)) (are_digits base text) (or_left (is_digit base b) (begins_low_digit base (b ∷ text)) both.0) (digits_numeral base text both.1)

pub is_numeral_text : (base value : ℕ) (text : List ℕ) → Numeral base value text → is_numeral base text ≡ true
is_numeral_text base value text n = and_of (begins (is_digit base) text) (are_digits base text) n.some (digits_numeral base text n.digits)
