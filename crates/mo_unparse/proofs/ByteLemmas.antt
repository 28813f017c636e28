-- Bytes of ASCII.
use Rattle.std.proofs.Common.{◌≡◌, ℕ, zero, suc, ◌<◌, ◌≤◌, Bool, true, List, [], ◌∷◌, ◌++◌, refl, ◌∙◌, arith, ⊎_elim}
use Rattle.std.specs.Prelude.{◌==◌, nat_lt, nat_le}
use Rattle.std.specs.List.{list_all}
use Rattle.std.specs.Char.{digit_value, is_ascii_alphabetic, is_ascii_digit}
use Rattle.std.specs.Int.{is_in_range}
use Rattle.std.specs.Str.{IsAscii}
use Rattle.std.proofs.lemmas.Bool.{eqb-true, ltb-true, lt-ltb, leb-true}
use Rattle.std.proofs.lemmas.Bool.Decides.{nat_tests}
use Rattle.std.proofs.lemmas.List.Folds.{list_all-append}
use Rattle.mo_syntax.specs.Characters.{is_digit, is_name_byte, is_name_start}
use Rattle.mo_lexer.proofs.Tools.{and_true, and_of, or_true, tested}

abbrev pub is_low : ℕ → Bool
is_low b = nat_lt b 128

abbrev pub AreLow : List ℕ → Type 0
AreLow bytes = list_all is_low bytes ≡ true

pub low_append : (xs ys : List ℕ) → AreLow xs → AreLow ys → AreLow (xs ++ ys)
low_append xs ys h g = list_all-append is_low xs ys ∙ and_of (list_all is_low xs) (list_all is_low ys) h g

pub low_is_ascii : (bytes : List ℕ) → AreLow bytes → IsAscii bytes
low_is_ascii [] h i = omega arith
low_is_ascii (b ∷ bytes) h zero = ltb-true b 128 (and_true (is_low b) (list_all is_low bytes) h).0
low_is_ascii (b ∷ bytes) h (suc i) = low_is_ascii bytes (and_true (is_low b) (list_all is_low bytes) h).1 i

pub low_from : (p : ℕ → Bool) (bytes : List ℕ) → ((b : ℕ) → p b ≡ true → is_low b ≡ true) → list_all p bytes ≡ true → AreLow bytes
low_from p [] each h = refl
low_from p (b ∷ bytes) each h =
    let both = and_true (p b) (list_all p bytes) h in
    and_of (is_low b) (list_all is_low bytes) (each b both.0) (low_from p bytes each both.1)

in_range_low : (lo hi b : ℕ) → hi < 128 → is_in_range lo hi b ≡ true → is_low b ≡ true
in_range_low lo hi b h is =
    let both = and_true (nat_le lo b) (nat_le b hi) is in
    let top : b ≤ hi = leb-true b hi both.1 in
    lt-ltb b 128 (omega arith)

pub name_byte_low : (b : ℕ) → is_name_byte b ≡ true → is_low b ≡ true
name_byte_low b h = ⊎_elim
    (λ start. ⊎_elim
    (λ letter. ⊎_elim (in_range_low 65 90 b (omega arith)) (in_range_low 97 122 b (omega arith)) (or_true (is_in_range 65 90 b) (is_in_range 97 122 b) letter))
    (λ low. let e : b ≡ 95 = eqb-true b 95 low in lt-ltb b 128 (omega arith))
    (or_true (is_ascii_alphabetic b) (b == 95) start))
    (in_range_low 48 57 b (omega arith))
    (or_true (is_name_start b) (is_ascii_digit b) h)

no_digit : (b : ℕ) → 128 ≤ b → digit_value b ≡ 36
no_digit b h = grind (arith, nat_tests)

pub digit_low : (base b : ℕ) → base ≤ 36 → is_digit base b ≡ true → is_low b ≡ true
digit_low base b most h = tested (is_low b) (λ low. low) (λ high.
    let d : digit_value b < base = ltb-true (digit_value b) base h in
    let far : 128 ≤ b = grind (arith, nat_tests) in
    let none = no_digit b far in
    absurd (omega arith))
