-- Escapes: what the code finds is one, and there is only one.
use Rattle.std.proofs.Common.{◌≡◌, ℕ, suc, ◌+◌, ◌-◌, ◌*◌, ◌<◌, ◌≤◌, Bool, true, false, List, [], ◌∷◌, ◌++◌, length, take, drop, get_or, Option, Some, None, refl, sym, ap, ◌∙◌, subst, arith, inl, inr, append_assoc, take-append-drop, length-append}
use Rattle.std.specs.Prelude.{if◌then◌else◌, ◌==◌, ◌||◌, ◌&&◌, nat_lt, nat_le}
use Rattle.std.specs.List.{prefix_len, list_all}
use Rattle.std.specs.Char.{digit_value}
use lib.Utf8.{scalar}
use Rattle.std.proofs.lemmas.Bool.{eqb-true, ltb-true, lt-ltb, leb-true, le-leb}
use Rattle.std.proofs.Math.Seq.{take-append_seam, drop-append_seam}
use Rattle.std.proofs.lemmas.List.{length-take-le}
use Rattle.std.proofs.lemmas.List.Sums.{prefix_len-le-length}
use Rattle.mo_syntax.specs.Characters.{is_digit, begins, value_of}
use Rattle.mo_syntax.specs.Lexed.{Escaped, character, byte, letter_escape, IsEscape}
use Rattle.mo_lexer.specs.declared.escape.Escape.{Escape}
use Rattle.mo_lexer.specs.declared.escape.Escape.TheVariants as escape
use Rattle.mo_lexer.specs.Escapes.{EscapeIs, EscapeFound as Found}
use Rattle.mo_lexer.specs.Reading.{byte_at, closed_at, valued_at, braced_at, unicode_at, lettered_at, escape_at}
use Rattle.mo_lexer.proofs.Tools.{and_true, and_of, if_true, if_false, tested, true_is_not_false, slice_rest}
use Rattle.mo_lexer.proofs.Names.{run_found, run_only}

byte_found : (high : ℕ) (text : List ℕ) → is_digit 16 high ≡ true → Found true (high ∷ text) (byte_at high text)
byte_found high [] h = tt
byte_found high (low ∷ text) h = tested (is_digit 16 low)
    (λ holds. subst (Found true (high ∷ low ∷ text)) (sym (if_true (is_digit 16 low) (escape.Byte (digit_value high * 16 + digit_value low) 2) escape.Bad holds))
    (record { within = omega arith; is_escape = (high, low, refl, h, holds, refl) }, refl))
    (λ fails. subst (Found true (high ∷ low ∷ text)) (sym (if_false (is_digit 16 low) (escape.Byte (digit_value high * 16 + digit_value low) 2) escape.Bad fails)) tt)

begins_all : (p : ℕ → Bool) (xs : List ℕ) → list_all p xs ≡ true → 0 < length xs → begins p xs ≡ true
begins_all p [] h some = absurd (omega arith)
begins_all p (x ∷ xs) h some = (and_true (p x) (list_all p xs) h).0

pub take_seam : (xs ys zs : List ℕ) (k : ℕ) → zs ≡ xs ++ ys → k ≡ length xs → take k zs ≡ xs
take_seam xs ys zs k e n = ap (take k) e ∙ ap (λ j. take j (xs ++ ys)) n ∙ take-append_seam xs ys

pub drop_seam : (xs ys zs : List ℕ) (k : ℕ) → zs ≡ xs ++ ys → k ≡ length xs → drop k zs ≡ ys
drop_seam xs ys zs k e n = ap (drop k) e ∙ ap (λ j. drop j (xs ++ ys)) n ∙ drop-append_seam xs ys

-- what stands in the braces, up to the brace that closes them
abbrev braced : List ℕ → List ℕ
braced digits = 117 ∷ 123 ∷ digits ++ 125 ∷ []

braced_is : (in_text : Bool) (text digits rest : List ℕ) (value len : ℕ) → text ≡ digits ++ 125 ∷ rest → len ≡ length digits → value ≡ value_of 16 digits →
    list_all (is_digit 16) digits ≡ true → 0 < len → scalar value ≡ true → EscapeIs (117 ∷ 123 ∷ text) (character value) (len + 3)
braced_is in_text text digits rest value len e n v all some is_scalar =
    let long : length text ≡ length digits + suc (length rest) = ap length e ∙ length-append digits (125 ∷ rest) in
    let whole : 117 ∷ 123 ∷ text ≡ braced digits ++ rest = ap (λ l. 117 ∷ 123 ∷ l) (e ∙ sym (append_assoc digits (125 ∷ []) rest)) in
    let size : length (digits ++ 125 ∷ []) ≡ length digits + 1 = length-append digits (125 ∷ []) in
    let size_all : len + 3 ≡ length (braced digits) = omega arith in
    let cut : take (len + 3) (117 ∷ 123 ∷ text) ≡ braced digits = take_seam (braced digits) rest (117 ∷ 123 ∷ text) (len + 3) whole size_all in
    let some_digits : 0 < length digits = omega arith in
    record { within = omega arith; is_escape = inr (digits, cut, begins_all (is_digit 16) digits all some_digits, all, v, is_scalar) }

valued_found : (in_text : Bool) (text digits rest : List ℕ) (len : ℕ) → text ≡ digits ++ rest → len ≡ length digits → list_all (is_digit 16) digits ≡ true →
    Found in_text (117 ∷ 123 ∷ text) (valued_at (value_of 16 digits) len rest)
valued_found in_text text digits [] len e n all = tested (nat_le (value_of 16 digits) 1114111)
    (λ holds. subst (Found in_text (117 ∷ 123 ∷ text)) (sym (if_true (nat_le (value_of 16 digits) 1114111) (closed_at (value_of 16 digits) len []) escape.Bad holds)) tt)
    (λ fails. subst (Found in_text (117 ∷ 123 ∷ text)) (sym (if_false (nat_le (value_of 16 digits) 1114111) (closed_at (value_of 16 digits) len []) escape.Bad fails)) tt)
valued_found in_text text digits (b ∷ rest) len e n all =
    let value : ℕ = value_of 16 digits in
    let test : Bool = (b == 125 && nat_lt 0 len) && scalar value in
    tested (nat_le value 1114111)
    (λ small. tested test
    (λ closed.
    let both = and_true (b == 125 && nat_lt 0 len) (scalar value) closed in
    let two = and_true (b == 125) (nat_lt 0 len) both.0 in
    let brace : b ≡ 125 = eqb-true b 125 two.0 in
    subst (Found in_text (117 ∷ 123 ∷ text)) (sym (if_true (nat_le value 1114111) (closed_at value len (b ∷ rest)) escape.Bad small ∙ if_true test (escape.Scalar value (len + 3)) escape.Bad closed))
    (braced_is in_text text digits rest value len (e ∙ ap (λ x. digits ++ x ∷ rest) brace) n refl all (ltb-true 0 len two.1) both.1))
    (λ open_. subst (Found in_text (117 ∷ 123 ∷ text)) (sym (if_true (nat_le value 1114111) (closed_at value len (b ∷ rest)) escape.Bad small ∙ if_false test (escape.Scalar value (len + 3)) escape.Bad open_)) tt))
    (λ fails. subst (Found in_text (117 ∷ 123 ∷ text)) (sym (if_false (nat_le value 1114111) (closed_at value len (b ∷ rest)) escape.Bad fails)) tt)

braced_found : (in_text : Bool) (text : List ℕ) → Found in_text (117 ∷ 123 ∷ text) (braced_at text)
unfolding braced_at
braced_found in_text text =
    let n : ℕ = prefix_len (is_digit 16) text in
    valued_found in_text text (take n text) (drop n text) n (sym (take-append-drop n text)) (sym (length-take-le n text (prefix_len-le-length (is_digit 16) text))) (run_found (is_digit 16) text).passes

unicode_found : (in_text : Bool) (letter : ℕ) (text : List ℕ) → letter ≡ 117 → Found in_text (letter ∷ text) (unicode_at text)
unicode_found in_text letter [] e = tt
unicode_found in_text letter (b ∷ text) e = tested (b == 123)
    (λ holds. subst (λ r. Found in_text (letter ∷ b ∷ text) r) (sym (if_true (b == 123) (braced_at text) escape.Bad holds))
    (subst (λ x. Found in_text (x ∷ b ∷ text) (braced_at text)) (sym e) (subst (λ x. Found in_text (117 ∷ x ∷ text) (braced_at text)) (sym (eqb-true b 123 holds)) (braced_found in_text text))))
    (λ fails. subst (λ r. Found in_text (letter ∷ b ∷ text) r) (sym (if_false (b == 123) (braced_at text) escape.Bad fails)) tt)

abbrev other_at : Bool → ℕ → List ℕ → Escape
other_at in_text letter text = if letter == 117 then unicode_at text else (if in_text && is_digit 16 letter then byte_at letter text else escape.Bad)

byte_found_in : (in_text : Bool) (letter : ℕ) (text : List ℕ) → in_text ≡ true → is_digit 16 letter ≡ true → Found in_text (letter ∷ text) (byte_at letter text)
byte_found_in true letter text e h = byte_found letter text h
byte_found_in false letter text e h = absurd (cc)

other_found : (in_text : Bool) (letter : ℕ) (text : List ℕ) → Found in_text (letter ∷ text) (other_at in_text letter text)
other_found in_text letter text = tested (letter == 117)
    (λ holds. subst (Found in_text (letter ∷ text)) (sym (if_true (letter == 117) (unicode_at text) (if in_text && is_digit 16 letter then byte_at letter text else escape.Bad) holds)) (unicode_found in_text letter text (eqb-true letter 117 holds)))
    (λ fails. subst (Found in_text (letter ∷ text)) (sym (if_false (letter == 117) (unicode_at text) (if in_text && is_digit 16 letter then byte_at letter text else escape.Bad) fails))
    (tested (in_text && is_digit 16 letter)
    (λ digit. let both = and_true in_text (is_digit 16 letter) digit in
    subst (Found in_text (letter ∷ text)) (sym (if_true (in_text && is_digit 16 letter) (byte_at letter text) escape.Bad digit)) (byte_found_in in_text letter text both.0 both.1))
    (λ bad. subst (Found in_text (letter ∷ text)) (sym (if_false (in_text && is_digit 16 letter) (byte_at letter text) escape.Bad bad)) tt)))

lettered_found : (in_text : Bool) (letter : ℕ) (text : List ℕ) (o : Option ℕ) → letter_escape letter ≡ o → Found in_text (letter ∷ text) (lettered_at o (other_at in_text letter text))
lettered_found in_text letter text (Some c) e = record { within = omega arith; is_escape = inl (letter, refl, e) }
lettered_found in_text letter text None e = other_found in_text letter text

pub escape_found : (in_text : Bool) (text : List ℕ) → Found in_text text (escape_at in_text text)
escape_found in_text [] = tt
escape_found in_text (letter ∷ text) = lettered_found in_text letter text (letter_escape letter) refl

-- ---- there is only one

abbrev pub shown : Escaped → ℕ → Escape
shown (character c) len = escape.Scalar c len
shown (byte b) len = escape.Byte b len

scalar_small : (c : ℕ) → scalar c ≡ true → nat_le c 1114111 ≡ true
scalar_small c h = tested (nat_lt c 55296)
    (λ low. let small : c < 55296 = ltb-true c 55296 low in le-leb c 1114111 (omega arith))
    (λ high. let both = and_true (nat_le 57344 c) (nat_lt c 1114112) (sym (if_false (nat_lt c 55296) true (nat_le 57344 c && nat_lt c 1114112) high) ∙ h) in
    let small : c < 1114112 = ltb-true c 1114112 both.1 in le-leb c 1114111 (omega arith))

some_digits : (digits : List ℕ) → begins (is_digit 16) digits ≡ true → nat_lt 0 (length digits) ≡ true
some_digits [] h = absurd (cc)
some_digits (d ∷ digits) h = lt-ltb 0 (length (d ∷ digits)) (omega arith)

braced_by : (text digits rest : List ℕ) (n : ℕ) (r : Escape) → prefix_len (is_digit 16) text ≡ n → take n text ≡ digits → drop n text ≡ rest → valued_at (value_of 16 digits) n rest ≡ r → braced_at text ≡ r
unfolding braced_at
braced_by text digits rest n r p t d v =
    ap (λ k. valued_at (value_of 16 (take k text)) k (drop k text)) p ∙ ap (λ l. valued_at (value_of 16 l) n (drop n text)) t ∙ ap (λ l. valued_at (value_of 16 digits) n l) d ∙ v

braced_only : (text digits rest : List ℕ) (c : ℕ) → text ≡ digits ++ 125 ∷ rest → begins (is_digit 16) digits ≡ true → list_all (is_digit 16) digits ≡ true → c ≡ value_of 16 digits → scalar c ≡ true →
    braced_at text ≡ escape.Scalar c (length digits + 3)
braced_only text digits rest c e first all v is_scalar =
    let n : ℕ = length digits in
    let test : Bool = (125 == 125 && nat_lt 0 n) && scalar c in
    let run : prefix_len (is_digit 16) text ≡ n = ap (prefix_len (is_digit 16)) e ∙ run_only (is_digit 16) digits (125 ∷ rest) (record { passes = all; stops = refl }) in
    let closed : test ≡ true = and_of (125 == 125 && nat_lt 0 n) (scalar c) (some_digits digits first) is_scalar in
    braced_by text digits (125 ∷ rest) n (escape.Scalar c (n + 3)) run (take_seam digits (125 ∷ rest) text n e refl) (drop_seam digits (125 ∷ rest) text n e refl)
    (ap (λ w. valued_at w n (125 ∷ rest)) (sym v) ∙ if_true (nat_le c 1114111) (closed_at c n (125 ∷ rest)) escape.Bad (scalar_small c is_scalar) ∙ if_true test (escape.Scalar c (n + 3)) escape.Bad closed)

pub character_only : (in_text : Bool) (text rest : List ℕ) (c : ℕ) → IsEscape text (character c) → escape_at in_text (text ++ rest) ≡ escape.Scalar c (length text)
character_only in_text text rest c (inl (letter, e, is)) =
    ap (λ l. escape_at in_text (l ++ rest)) e ∙ ap (λ o. lettered_at o (other_at in_text letter rest)) is ∙ ap (λ l. escape.Scalar c (length l)) (sym e)
character_only in_text text rest c (inr (digits, e, first, all, v, is_scalar)) =
    let size : length (digits ++ 125 ∷ []) ≡ length digits + 1 = length-append digits (125 ∷ []) in
    let size_all : length digits + 3 ≡ length text = omega (arith, ap length e) in
    ap (λ l. escape_at in_text (l ++ rest)) e ∙ braced_only ((digits ++ 125 ∷ []) ++ rest) digits rest c (append_assoc digits (125 ∷ []) rest) first all v is_scalar ∙ ap (escape.Scalar c) size_all

digit_is_not : (b k : ℕ) → is_digit 16 b ≡ true → is_digit 16 k ≡ false → (b == k) ≡ false
digit_is_not b k h g = tested (b == k) (λ holds. true_is_not_false (ap (is_digit 16) (sym (eqb-true b k holds)) ∙ h) g) (λ fails. fails)

no_letter : (b : ℕ) → is_digit 16 b ≡ true → letter_escape b ≡ None
no_letter b h =
    if_false (b == 110) _ _ (digit_is_not b 110 h refl) ∙ if_false (b == 114) _ _ (digit_is_not b 114 h refl) ∙ if_false (b == 116) _ _ (digit_is_not b 116 h refl)
    ∙ if_false (b == 92 || (b == 34 || b == 39)) (Some b) None
    (ap (λ t. t || (b == 34 || b == 39)) (digit_is_not b 92 h refl) ∙ ap (λ t. t || b == 39) (digit_is_not b 34 h refl) ∙ digit_is_not b 39 h refl)

byte_only_at : (high low : ℕ) (rest : List ℕ) → is_digit 16 high ≡ true → is_digit 16 low ≡ true → escape_at true (high ∷ low ∷ rest) ≡ escape.Byte (digit_value high * 16 + digit_value low) 2
byte_only_at high low rest h g =
    ap (λ o. lettered_at o (other_at true high (low ∷ rest))) (no_letter high h)
    ∙ if_false (high == 117) (unicode_at (low ∷ rest)) (if is_digit 16 high then byte_at high (low ∷ rest) else escape.Bad) (digit_is_not high 117 h refl)
    ∙ if_true (is_digit 16 high) (byte_at high (low ∷ rest)) escape.Bad h
    ∙ if_true (is_digit 16 low) (escape.Byte (digit_value high * 16 + digit_value low) 2) escape.Bad g

pub escape_only : (text rest : List ℕ) (value : Escaped) → IsEscape text value → escape_at true (text ++ rest) ≡ shown value (length text)
escape_only text rest (character c) h = character_only true text rest c h
escape_only text rest (byte n) (high, low, e, h, g, v) =
    ap (λ l. escape_at true (l ++ rest)) e ∙ byte_only_at high low rest h g ∙ ap (λ m. escape.Byte m 2) (sym v) ∙ ap (λ l. escape.Byte n (length l)) (sym e)

-- ---- the code's reading of braces

pub braced_read : (text : List ℕ) (n value : ℕ) (r : Escape) → n ≡ prefix_len (is_digit 16) text → value ≡ value_of 16 (take n text) → value ≤ 1114111 → r ≡ closed_at value n (take (length text - n) (drop n text)) → r ≡ braced_at text
braced_read text n value r e v small h =
    h ∙ ap (closed_at value n) (slice_rest n text)
    ∙ sym (braced_by text (take n text) (drop n text) n (closed_at value n (drop n text)) (sym e) refl refl
    (ap (λ w. valued_at w n (drop n text)) (sym v) ∙ if_true (nat_le value 1114111) (closed_at value n (drop n text)) escape.Bad (le-leb value 1114111 small)))

pub braced_bad : (text : List ℕ) (n : ℕ) → n ≡ prefix_len (is_digit 16) text → (value_of 16 (take n text) ≤ 1114111 → ⊥) → escape.Bad ≡ braced_at text
braced_bad text n e wide =
    sym (braced_by text (take n text) (drop n text) n escape.Bad (sym e) refl refl
    (if_false (nat_le (value_of 16 (take n text)) 1114111) (closed_at (value_of 16 (take n text)) n (drop n text)) escape.Bad
    (tested (nat_le (value_of 16 (take n text)) 1114111) (λ small. absurd (wide (leb-true (value_of 16 (take n text)) 1114111 small))) (λ large. large))))

pub unicode_whole : (in_text : Bool) (text : List ℕ) (r : Escape) → 1 ≤ length text → get_or text 0 0 ≡ 117 → r ≡ unicode_at (take (length text - 1) (drop 1 text)) → Found in_text text r
unicode_whole in_text [] r some e h = absurd (omega arith)
unicode_whole in_text (b ∷ text) r some e h = subst (Found in_text (b ∷ text)) (sym (h ∙ ap unicode_at (slice_rest 1 (b ∷ text)))) (unicode_found in_text b text e)
