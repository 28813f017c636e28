-- Lists of bytes that are tested a byte at a time; reserved words; numbers.
use Rattle.std.proofs.Common.{◌≡◌, ℕ, ◌+◌, ◌-◌, ◌*◌, ◌<◌, ◌≤◌, ◌^◌, List, [], ◌∷◌, ◌++◌, length, Bool, true, refl, ap, sym, ◌∙◌, subst, arith, take, drop, get_or, zero, suc}
use Rattle.std.specs.List.{Contains, list_any, Any}
use Rattle.std.specs.Str.{bytes_eq}
use Rattle.std.specs.Char.{digit_value}
use Rattle.std.specs.Str.Parse.{digits_value, digits_value_after}
use Rattle.std.proofs.lemmas.Bool.Decides.{nat_tests}
use Rattle.std.proofs.lemmas.Slice.Eq.{bytes_eq-Decides}
use Rattle.std.proofs.lemmas.Int.Digits.{digits_value_more}
use Rattle.std.proofs.lemmas.List.{take_more, take-append-drop}
use Rattle.std.proofs.lemmas.List.Folds.{Any-from_list_any, list_any-from_Any}
use Rattle.query_source.specs.Tokens.{AreAll, is_digit}
use Rattle.query_source.specs.Words.{IsNumeral}

-- each byte of the list passes where all do
pub all_at : (test : ℕ → Bool) (bytes : List ℕ) (i d : ℕ) → i < length bytes → AreAll test bytes → test (get_or bytes i d) ≡ true
all_at test [] i d h all = absurd (omega arith)
all_at test (b ∷ bs) zero d h all = all.0
all_at test (b ∷ bs) (suc i) d h all = all_at test bs i d (omega arith) all.1

pub all_push : (test : ℕ → Bool) (bytes : List ℕ) (b : ℕ) → AreAll test bytes → test b ≡ true → AreAll test (bytes ++ b ∷ [])
all_push test [] b all h = (h, tt)
all_push test (a ∷ bs) b all h = (all.0, all_push test bs b all.1 h)

pub all_more : (test : ℕ → Bool) (bytes : List ℕ) (i d : ℕ) → i < length bytes → AreAll test (take i bytes) → test (get_or bytes i d) ≡ true → AreAll test (take (i + 1) bytes)
all_more test bytes i d h all passes = subst (λ xs. AreAll test xs) (sym (take_more bytes i d h)) (all_push test (take i bytes) (get_or bytes i d) all passes)

-- the words that equal the name
pub reserved_when : (words : List (List ℕ)) (name : List ℕ) → list_any (λ w. bytes_eq w name) words ≡ true → Contains words name
reserved_when words name h =
    let a : Any (λ w. bytes_eq w name ≡ true) words = Any-from_list_any (λ w. bytes_eq w name) words h in
    let e : a.1 ≡ name = (bytes_eq-Decides a.1 name).0 a.4 in
    (a.0, a.2, subst (λ n. get_or words a.0 n ≡ n) e a.3)

pub reserved_only : (words : List (List ℕ)) (name : List ℕ) → Contains words name → list_any (λ w. bytes_eq w name) words ≡ true
reserved_only words name c = list_any-from_Any (λ w. bytes_eq w name) words (c.0, name, c.1, c.2, (bytes_eq-Decides name name).1 refl)

-- digits only make a number greater
pub value_grows : (n : ℕ) (ds : List ℕ) → n ≤ digits_value_after 10 n ds
value_grows n [] = omega arith
value_grows n (d ∷ ds) = let more : n * 10 + digit_value d ≤ digits_value_after 10 (n * 10 + digit_value d) ds = value_grows (n * 10 + digit_value d) ds in omega arith

value_append : (n : ℕ) (xs ys : List ℕ) → digits_value_after 10 n (xs ++ ys) ≡ digits_value_after 10 (digits_value_after 10 n xs) ys
value_append n [] ys = refl
value_append n (x ∷ xs) ys = value_append (n * 10 + digit_value x) xs ys

pub value_front : (digits : List ℕ) (i : ℕ) → digits_value 10 (take i digits) ≤ digits_value 10 digits
value_front digits i =
    let e : digits_value 10 digits ≡ digits_value_after 10 (digits_value 10 (take i digits)) (drop i digits) = ap (digits_value 10) (sym (take-append-drop i digits)) ∙ value_append 0 (take i digits) (drop i digits) in
    let g : digits_value 10 (take i digits) ≤ digits_value_after 10 (digits_value 10 (take i digits)) (drop i digits) = value_grows (digits_value 10 (take i digits)) (drop i digits) in
    omega arith

pub digit_is : (b : ℕ) → is_digit b ≡ true → digit_value b ≡ b - 48
digit_is b h = grind (arith, nat_tests)

pub value_more : (digits : List ℕ) (i number : ℕ) → i < length digits → is_digit (get_or digits i 0) ≡ true → number ≡ digits_value 10 (take i digits) → 10 * number + (get_or digits i 0 - 48) ≡ digits_value 10 (take (i + 1) digits)
value_more digits i number h digit e =
    let more : digits_value 10 (take (i + 1) digits) ≡ digits_value 10 (take i digits) * 10 + digit_value (get_or digits i 0) = digits_value_more 10 digits i h in
    let one : digit_value (get_or digits i 0) ≡ get_or digits i 0 - 48 = digit_is (get_or digits i 0) digit in
    omega arith

pub too_great : (digits : List ℕ) (i next number : ℕ) → next ≡ digits_value 10 (take i digits) → 2 ^ 63 ≤ next → IsNumeral digits number → ⊥
too_great digits i next number e great n =
    let front : digits_value 10 (take i digits) ≤ digits_value 10 digits = value_front digits i in
    let value : digits_value 10 digits ≡ number = n.value in
    let small : number < 2 ^ 63 = n.small in
    omega arith
