-- Numbers: what the code finds is one, and there is only one.
use Rattle.std.proofs.Common.{◌≡◌, ℕ, zero, suc, ◌+◌, ◌-◌, ◌*◌, ◌<◌, ◌≤◌, ◌^◌, Bool, true, false, List, [], ◌∷◌, ◌++◌, length, take, drop, get_or, refl, sym, ap, ◌∙◌, subst, arith, inl, inr, ⊎_elim, take-append-drop}
use Rattle.std.proofs.Math.Seq.{take-append_seam}
use Rattle.std.specs.Prelude.{if◌then◌else◌, ◌==◌, ◌&&◌, nat_lt}
use Rattle.std.specs.Char.{digit_value}
use Rattle.std.proofs.lemmas.Bool.{eqb-true, ltb-true, lt-ltb}
use Rattle.std.proofs.str.Laws.{order}
use Rattle.std.proofs.lemmas.List.{drop_all}
use Rattle.mo_syntax.specs.Characters.{is_digit, begins, begins_low_digit, goes_on, are_digits, is_numeral, value_after, value_of}
use Rattle.mo_syntax.specs.Lexed.{begins_hexadecimal}
use Rattle.mo_lexer.specs.Reading.{digits_len}
use Rattle.mo_lexer.specs.Numbers.{IsNumber}
use Rattle.mo_lexer.proofs.Tools.{and_true, and_of, or_true, or_left, or_right, if_true, if_false, tested, true_is_not_false, take_one, drop_one, take_two, drop_two, head_at}

pub digits_len_yes : (base b : ℕ) (text : List ℕ) → goes_on base (b ∷ text) ≡ true → digits_len base (b ∷ text) ≡ 1 + digits_len base text
digits_len_yes base b text goes = if_true (goes_on base (b ∷ text)) (1 + digits_len base text) 0 goes

pub digits_len_no : (base : ℕ) (text : List ℕ) → goes_on base text ≡ false → digits_len base text ≡ 0
digits_len_no base [] goes = refl
digits_len_no base (b ∷ text) goes = if_false (goes_on base (b ∷ text)) (1 + digits_len base text) 0 goes

-- a digit at the front is kept by a cut behind it
begins_cut : (base : ℕ) (text : List ℕ) → begins (is_digit base) text ≡ true → begins (is_digit base) (take (digits_len base text) text) ≡ true
begins_cut base [] h = absurd (cc)
begins_cut base (b ∷ text) h =
    let goes : goes_on base (b ∷ text) ≡ true = or_left (is_digit base b) (begins_low_digit base (b ∷ text)) h in
    ap (λ n. begins (is_digit base) (take n (b ∷ text))) (digits_len_yes base b text goes) ∙ ap (begins (is_digit base)) (take_one (digits_len base text) b text) ∙ h

goes_on_cut : (base b : ℕ) (text : List ℕ) → goes_on base (b ∷ text) ≡ true → goes_on base (b ∷ take (digits_len base text) text) ≡ true
goes_on_cut base b text h = ⊎_elim
    (λ digit. or_left (is_digit base b) (begins_low_digit base (b ∷ take (digits_len base text) text)) digit)
    (λ low. let both = and_true (b == 95) (begins (is_digit base) text) low in
    or_right (is_digit base b) (begins_low_digit base (b ∷ take (digits_len base text) text)) (and_of (b == 95) (begins (is_digit base) (take (digits_len base text) text)) both.0 (begins_cut base text both.1)))
    (or_true (is_digit base b) (begins_low_digit base (b ∷ text)) h)

pub digits_found : (base : ℕ) (text : List ℕ) → (are_digits base (take (digits_len base text) text) ≡ true) × (goes_on base (drop (digits_len base text) text) ≡ false)
digits_found base [] = (refl, refl)
digits_found base (b ∷ text) = tested (goes_on base (b ∷ text))
    (λ holds.
    let more = digits_found base text in
    let n = digits_len_yes base b text holds in (
      ap (λ k. are_digits base (take k (b ∷ text))) n ∙ ap (are_digits base) (take_one (digits_len base text) b text) ∙ and_of (goes_on base (b ∷ take (digits_len base text) text)) (are_digits base (take (digits_len base text) text)) (goes_on_cut base b text holds) more.0,
      ap (λ k. goes_on base (drop k (b ∷ text))) n ∙ ap (goes_on base) (drop_one (digits_len base text) b text) ∙ more.1,
    ))
    (λ fails. let n = digits_len_no base (b ∷ text) fails in
    (ap (λ k. are_digits base (take k (b ∷ text))) n, ap (λ k. goes_on base (drop k (b ∷ text))) n ∙ fails))

begins_append : (base : ℕ) (xs rest : List ℕ) → begins (is_digit base) xs ≡ true → begins (is_digit base) (xs ++ rest) ≡ true
begins_append base [] rest h = absurd (cc)
begins_append base (x ∷ xs) rest h = h

goes_on_append : (base b : ℕ) (xs rest : List ℕ) → goes_on base (b ∷ xs) ≡ true → goes_on base (b ∷ xs ++ rest) ≡ true
goes_on_append base b xs rest h = ⊎_elim
    (λ digit. or_left (is_digit base b) (begins_low_digit base (b ∷ xs ++ rest)) digit)
    (λ low. let both = and_true (b == 95) (begins (is_digit base) xs) low in
    or_right (is_digit base b) (begins_low_digit base (b ∷ xs ++ rest)) (and_of (b == 95) (begins (is_digit base) (xs ++ rest)) both.0 (begins_append base xs rest both.1)))
    (or_true (is_digit base b) (begins_low_digit base (b ∷ xs)) h)

pub digits_only : (base : ℕ) (xs rest : List ℕ) → are_digits base xs ≡ true → goes_on base rest ≡ false → digits_len base (xs ++ rest) ≡ length xs
digits_only base [] rest all stops = digits_len_no base rest stops
digits_only base (x ∷ xs) rest all stops =
    let both = and_true (goes_on base (x ∷ xs)) (are_digits base xs) all in
    let more : digits_len base (xs ++ rest) ≡ length xs = digits_only base xs rest both.1 stops in
    let here : digits_len base (x ∷ xs ++ rest) ≡ 1 + digits_len base (xs ++ rest) = digits_len_yes base x (xs ++ rest) (goes_on_append base x xs rest both.0) in
    let last : 1 + digits_len base (xs ++ rest) ≡ suc (length xs) = omega arith in
    here ∙ last

-- ---- the loops

pub digits_more : (base len : ℕ) (text : List ℕ) → len < length text → goes_on base (drop len text) ≡ true → digits_len base text ≡ len + digits_len base (drop len text) →
    digits_len base text ≡ len + 1 + digits_len base (drop (len + 1) text)
digits_more base len text h goes e =
    let cut = head_at len text h in
    let goes_here : goes_on base (get_or text len 0 ∷ drop (len + 1) text) ≡ true = ap (goes_on base) (sym cut) ∙ goes in
    let step : digits_len base (drop len text) ≡ 1 + digits_len base (drop (len + 1) text) = ap (digits_len base) cut ∙ digits_len_yes base (get_or text len 0) (drop (len + 1) text) goes_here in
    let sum : len + digits_len base (drop len text) ≡ len + 1 + digits_len base (drop (len + 1) text) = omega arith in
    e ∙ sum

pub digits_end : (base len : ℕ) (text : List ℕ) → digits_len base text ≡ len + digits_len base (drop len text) → goes_on base (drop len text) ≡ false → len ≡ digits_len base text
digits_end base len text e stops = let none = digits_len_no base (drop len text) stops in omega arith

-- a value only grows
value_grows : (k value : ℕ) (text : List ℕ) → value ≤ value_after (suc k) value text
value_grows k value [] = omega arith
value_grows k value (b ∷ text) = tested (b == 95)
    (λ low.
    let here : value_after (suc k) value (b ∷ text) ≡ value_after (suc k) value text = ap (λ v. value_after (suc k) v text) (if_true (b == 95) value (value * suc k + digit_value b) low) in
    let more = value_grows k value text in omega arith)
    (λ other.
    let here : value_after (suc k) value (b ∷ text) ≡ value_after (suc k) (value * suc k + digit_value b) text = ap (λ v. value_after (suc k) v text) (if_false (b == 95) value (value * suc k + digit_value b) other) in
    let more = value_grows k (value * suc k + digit_value b) text in
    let product : value * suc k ≡ value * k + value = omega arith in omega arith)

pub too_wide : (base value index : ℕ) (digits : List ℕ) → index < length digits → (get_or digits index 0 ≡ 95 → ⊥) → 2 ^ 64 ≤ value * base + digit_value (get_or digits index 0) → digit_value (get_or digits index 0) ≤ 36 →
    value_after base value (drop index digits) ≡ value_of base digits → value_of base digits < 2 ^ 64 → ⊥
too_wide zero value index digits h other wide small e narrow = let none : value * zero ≡ 0 = omega arith in omega arith
too_wide (suc k) value index digits h other wide small e narrow =
    let b : ℕ = get_or digits index 0 in
    let rest : List ℕ = drop (index + 1) digits in
    let is_other : (b == 95) ≡ false = tested (b == 95) (λ low. absurd (other (eqb-true b 95 low))) (λ fails. fails) in
    let here : value_after (suc k) value (drop index digits) ≡ value_after (suc k) (value * suc k + digit_value b) rest =
    ap (value_after (suc k) value) (head_at index digits h) ∙ ap (λ v. value_after (suc k) v rest) (if_false (b == 95) value (value * suc k + digit_value b) is_other) in
    let more = value_grows k (value * suc k + digit_value b) rest in
    omega arith

pub value_end : (base value index : ℕ) (digits : List ℕ) → length digits ≤ index → value_after base value (drop index digits) ≡ value_of base digits → value ≡ value_of base digits
value_end base value index digits h e = ap (value_after base value) (sym (drop_all index digits h)) ∙ e

pub wide_product : (value by base digit : ℕ) → by ≡ base → (value * by < 2 ^ 64 → ⊥) → 2 ^ 64 ≤ value * base + digit
wide_product value by base digit e h = subst (λ x. 2 ^ 64 ≤ value * x + digit) e (omega (arith, h))

-- the cases of `digit_value` behind the digits
abbrev capitals : ℕ → ℕ
capitals b = if nat_lt b 97 then 36 else (if nat_lt b 123 then b - 87 else 36)

abbrev letters : ℕ → ℕ
letters b = if nat_lt b 65 then 36 else (if nat_lt b 91 then b - 55 else capitals b)

abbrev upper : ℕ → ℕ
upper b = if nat_lt b 58 then b - 48 else letters b

at_most : (t : Bool) (x y : ℕ) → (t ≡ true → x ≤ 36) → (t ≡ false → y ≤ 36) → (if t then x else y) ≤ 36
at_most true x y h g = h refl
at_most false x y h g = g refl

pub digit_value_small : (b : ℕ) → digit_value b ≤ 36
digit_value_small b =
    at_most (nat_lt b 48) 36 (upper b) (λ _. omega arith) (λ _.
    at_most (nat_lt b 58) (b - 48) (letters b) (λ h. let s : b < 58 = ltb-true b 58 h in omega arith) (λ _.
    at_most (nat_lt b 65) 36 (if nat_lt b 91 then b - 55 else capitals b) (λ _. omega arith) (λ _.
    at_most (nat_lt b 91) (b - 55) (capitals b) (λ h. let s : b < 91 = ltb-true b 91 h in omega arith) (λ _.
    at_most (nat_lt b 97) 36 (if nat_lt b 123 then b - 87 else 36) (λ _. omega arith) (λ _.
    at_most (nat_lt b 123) (b - 87) 36 (λ h. let s : b < 123 = ltb-true b 123 h in omega arith) (λ _. omega arith))))))

pub wide_sum : (value by base product add digit : ℕ) → by ≡ base → product ≡ value * by → add ≡ digit → (product + add < 2 ^ 64 → ⊥) → 2 ^ 64 ≤ value * base + digit
wide_sum value by base product add digit e p d h =
    subst (λ x. 2 ^ 64 ≤ value * x + digit) e (subst (λ x. 2 ^ 64 ≤ x + digit) p (subst (λ x. 2 ^ 64 ≤ product + x) d (omega (arith, h))))

-- ---- what the code finds is a number

abbrev hex : ℕ → Bool
hex = is_digit 16

begins_some : (base : ℕ) (text : List ℕ) → begins (is_digit base) text ≡ true → 0 < digits_len base text
begins_some base [] h = absurd (cc)
begins_some base (b ∷ text) h =
    let n = digits_len_yes base b text (or_left (is_digit base b) (begins_low_digit base (b ∷ text)) h) in omega arith

pub numeral_found : (base : ℕ) (text : List ℕ) → begins (is_digit base) text ≡ true → is_numeral base (take (digits_len base text) text) ≡ true
numeral_found base text h = and_of (begins (is_digit base) (take (digits_len base text) text)) (are_digits base (take (digits_len base text) text)) (begins_cut base text h) (digits_found base text).0

pub digits_len_within : (base : ℕ) (text : List ℕ) → digits_len base text ≤ length text
digits_len_within base [] = omega arith
digits_len_within base (b ∷ text) = tested (goes_on base (b ∷ text))
    (λ goes. let n = digits_len_yes base b text goes in let more = digits_len_within base text in omega arith)
    (λ stops. let n = digits_len_no base (b ∷ text) stops in omega arith)

-- a number at the front, with its length and value
pub record NumberAt (text : List ℕ) (len n : ℕ) : Type 0 where
  pub within : len ≤ length text
  pub some : 0 < len
  pub is_number : IsNumber (take len text) n (drop len text)

pub decimal_found : (text : List ℕ) → begins (is_digit 10) text ≡ true → begins_hexadecimal text ≡ false → NumberAt text (digits_len 10 text) (value_of 10 (take (digits_len 10 text) text))
decimal_found text h g = record {
  within = digits_len_within 10 text;
  some = begins_some 10 text h;
  is_number = inl (numeral_found 10 text h, refl, (digits_found 10 text).1, ap begins_hexadecimal (take-append-drop (digits_len 10 text) text) ∙ g);
}

pub hexadecimal_found : (text : List ℕ) → begins_hexadecimal text ≡ true → NumberAt text (2 + digits_len 16 (drop 2 text)) (value_of 16 (take (digits_len 16 (drop 2 text)) (drop 2 text)))
hexadecimal_found [] h = absurd (cc)
hexadecimal_found (b ∷ []) h = absurd (cc)
hexadecimal_found (b ∷ x ∷ text) h =
    let both = and_true (b == 48 && x == 120) (begins (is_digit 16) text) h in
    let two = and_true (b == 48) (x == 120) both.0 in
    let n : ℕ = digits_len 16 text in
    let cut : take (2 + n) (b ∷ x ∷ text) ≡ 48 ∷ 120 ∷ take n text = take_two n b x text ∙ ap (λ z. z ∷ x ∷ take n text) (eqb-true b 48 two.0) ∙ ap (λ z. 48 ∷ z ∷ take n text) (eqb-true x 120 two.1) in
    let fits = digits_len_within 16 text in
    record {
      within = omega arith;
      some = omega arith;
      is_number = inr (take n text, cut, numeral_found 16 text both.1, refl, ap (goes_on 16) (drop_two n b x text) ∙ (digits_found 16 text).1);
    }

-- ---- there is only one

abbrev pub number_len : List ℕ → ℕ
number_len text = if begins_hexadecimal text then 2 + digits_len 16 (drop 2 text) else digits_len 10 text

abbrev pub number_value : List ℕ → ℕ
number_value text = if begins_hexadecimal text then value_of 16 (take (digits_len 16 (drop 2 text)) (drop 2 text)) else value_of 10 (take (digits_len 10 text) text)

pub record NumberOnly (text rest : List ℕ) (n : ℕ) : Type 0 where
  pub len_is : number_len (text ++ rest) ≡ length text
  pub value_is : number_value (text ++ rest) ≡ n

pub number_only : (text rest : List ℕ) (n : ℕ) → IsNumber text n rest → NumberOnly text rest n
number_only text rest n (inl (numeral, value, ends, plain)) =
    let both = and_true (begins (is_digit 10) text) (are_digits 10 text) numeral in
    let len : digits_len 10 (text ++ rest) ≡ length text = digits_only 10 text rest both.1 ends in
    record {
      len_is = if_false (begins_hexadecimal (text ++ rest)) _ (digits_len 10 (text ++ rest)) plain ∙ len;
      value_is = if_false (begins_hexadecimal (text ++ rest)) _ (value_of 10 (take (digits_len 10 (text ++ rest)) (text ++ rest))) plain ∙ ap (value_of 10) (ap (λ k. take k (text ++ rest)) len ∙ take-append_seam text rest) ∙ sym value;
    }
number_only text rest n (inr (digits, is, numeral, value, ends)) =
    let both = and_true (begins (is_digit 16) digits) (are_digits 16 digits) numeral in
    let whole : text ++ rest ≡ 48 ∷ 120 ∷ digits ++ rest = ap (λ l. l ++ rest) is in
    let hexadecimal : begins_hexadecimal (text ++ rest) ≡ true = ap begins_hexadecimal whole ∙ begins_append 16 digits rest both.0 in
    let tail : drop 2 (text ++ rest) ≡ digits ++ rest = ap (drop 2) whole in
    let len : digits_len 16 (drop 2 (text ++ rest)) ≡ length digits = ap (digits_len 16) tail ∙ digits_only 16 digits rest both.1 ends in
    let size : 2 + length digits ≡ length text = omega (arith, ap length is) in
    record {
      len_is = if_true (begins_hexadecimal (text ++ rest)) (2 + digits_len 16 (drop 2 (text ++ rest))) _ hexadecimal ∙ ap (λ k. 2 + k) len ∙ size;
      value_is = if_true (begins_hexadecimal (text ++ rest)) (value_of 16 (take (digits_len 16 (drop 2 (text ++ rest))) (drop 2 (text ++ rest)))) _ hexadecimal
          ∙ ap (value_of 16) (ap (λ k. take k (drop 2 (text ++ rest))) len ∙ ap (take (length digits)) tail ∙ take-append_seam digits rest) ∙ sym value;
    }

at_least : (b : Bool) (x y : ℕ) → (b ≡ true → 10 ≤ x) → (b ≡ false → 10 ≤ y) → 10 ≤ (if b then x else y)
at_least true x y h g = h refl
at_least false x y h g = g refl

above : (k b : ℕ) → nat_lt b k ≡ false → k ≤ b
above k b h = ⊎_elim (λ less. let e = lt-ltb b k less in true_is_not_false e h) (λ more. more) (order b k)

letters_large : (b : ℕ) → 58 ≤ b → 10 ≤ letters b
letters_large b h =
    at_least (nat_lt b 65) 36 (if nat_lt b 91 then b - 55 else capitals b) (λ _. omega arith) (λ g. let l = above 65 b g in
    at_least (nat_lt b 91) (b - 55) (capitals b) (λ _. omega arith) (λ f. let m = above 91 b f in
    at_least (nat_lt b 97) 36 (if nat_lt b 123 then b - 87 else 36) (λ _. omega arith) (λ e. let n = above 97 b e in
    at_least (nat_lt b 123) (b - 87) 36 (λ _. omega arith) (λ _. omega arith))))

pub digit_below : (b : ℕ) → is_digit 10 b ≡ true → b < 58
digit_below b h = tested (nat_lt b 58) (λ small. ltb-true b 58 small) (λ large.
    let most = above 58 b large in
    let not_low : nat_lt b 48 ≡ false = tested (nat_lt b 48) (λ low. let l = ltb-true b 48 low in absurd (omega arith)) (λ high. high) in
    let value : digit_value b ≡ letters b = if_false (nat_lt b 48) 36 (upper b) not_low ∙ if_false (nat_lt b 58) (b - 48) (letters b) large in
    let least = letters_large b most in
    let low : digit_value b < 10 = ltb-true (digit_value b) 10 h in
    absurd (omega arith))
