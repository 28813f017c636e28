-- Texts of principals, and some that are of none.
use Rattle.std.proofs.Common.{◌≡◌, ℕ, ◌+◌, ◌*◌, ◌^◌, ◌/◌, ◌<◌, ◌≤◌, Bool, true, false, List, [], ◌∷◌, length, Option, Some, None, codes, bytes_eq, leb, refl, sym, subst, ◌∙◌, arith}
use Rattle.std.proofs.lemmas.Bool.{leb-true}
use Rattle.std.proofs.lemmas.Slice.Eq.{bytes_eq-Decides}
use Rattle.std.specs.List.{AllByRecursion}
use Rattle.mo_num.specs.Crc.{crc32_of, remainder, generator, bits}
use Rattle.mo_num.specs.PrincipalText.{IsBase32, with_checksum, number, shown}
use Rattle.mo_num.proofs.PrincipalTexts.{shown_one}
use Rattle.mo_types.specs.Sub.{Each}
use Rattle.subtype_laws.specs.Decided.{all_hold}
use Rattle.typing_rules.specs.AbstractSyntax.{Bytes}
use Rattle.typing_rules.specs.Answers.{IsPrincipalText}
use Rattle.typing_rules.proofs.Closures.{both_true}

abbrev pub Truth : Bool → Type 0 → Type 0
Truth true P = P
Truth false P = P → ⊥

-- ---- the principal of no bytes, which is the management canister, and two of ten bytes

abbrev management : Bytes
management = codes "aaaaa-aa"

management_text : IsPrincipalText management
unfolding with_checksum shown crc32_of remainder generator bits
management_text = (
  [],
  (let h : 0 ≤ 29 = omega arith in h, tt),
  record {
    digits = 0 ∷ 0 ∷ 0 ∷ 0 ∷ 0 ∷ 0 ∷ 0 ∷ [];
    spelled = record {
      below = (omega arith, (omega arith, (omega arith, (omega arith, (omega arith, (omega arith, (omega arith, tt)))))));
      padding = 3;
      few = omega arith;
      filled = refl;
      same = refl;
    };
    text_is = refl;
  },
)

-- each is below the limit
abbrev below : ℕ → List ℕ → Bool
below n ds = all_hold (λ d. leb (1 + d) n) ds

all_below : (n : ℕ) (ds : List ℕ) → below n ds ≡ true → AllByRecursion (λ d. d < n) ds
all_below n [] h = tt
all_below n (d ∷ ds) h =
    let k = both_true (leb (1 + d) n) (below n ds) h in
    let l : 1 + d ≤ n = leb-true (1 + d) n k.0 in
    (omega arith, all_below n ds k.1)

abbrev first : Bytes
first = codes "rrkah-fqaaa-aaaaa-aaaaq-cai"

abbrev first_digits : List ℕ
first_digits = 17 ∷ 17 ∷ 10 ∷ 0 ∷ 7 ∷ 5 ∷ 16 ∷ 0 ∷ 0 ∷ 0 ∷ 0 ∷ 0 ∷ 0 ∷ 0 ∷ 0 ∷ 0 ∷ 0 ∷ 0 ∷ 0 ∷ 16 ∷ 2 ∷ 0 ∷ 8 ∷ []

first_text : IsPrincipalText first
unfolding with_checksum shown crc32_of remainder generator bits
first_text = (
  0 ∷ 0 ∷ 0 ∷ 0 ∷ 0 ∷ 0 ∷ 0 ∷ 1 ∷ 1 ∷ 1 ∷ [],
  (let h : 10 ≤ 29 = omega arith in h, all_below 256 (0 ∷ 0 ∷ 0 ∷ 0 ∷ 0 ∷ 0 ∷ 0 ∷ 1 ∷ 1 ∷ 1 ∷ []) refl),
  record {
    digits = first_digits;
    spelled = record { below = all_below 32 first_digits refl; padding = 3; few = omega arith; filled = refl; same = refl };
    text_is = refl;
  },
)

abbrev second : Bytes
second = codes "ryjl3-tyaaa-aaaaa-aaaba-cai"

abbrev second_digits : List ℕ
second_digits = 17 ∷ 24 ∷ 9 ∷ 11 ∷ 27 ∷ 19 ∷ 24 ∷ 0 ∷ 0 ∷ 0 ∷ 0 ∷ 0 ∷ 0 ∷ 0 ∷ 0 ∷ 0 ∷ 0 ∷ 0 ∷ 1 ∷ 0 ∷ 2 ∷ 0 ∷ 8 ∷ []

second_text : IsPrincipalText second
unfolding with_checksum shown crc32_of remainder generator bits
second_text = (
  0 ∷ 0 ∷ 0 ∷ 0 ∷ 0 ∷ 0 ∷ 0 ∷ 2 ∷ 1 ∷ 1 ∷ [],
  (let h : 10 ≤ 29 = omega arith in h, all_below 256 (0 ∷ 0 ∷ 0 ∷ 0 ∷ 0 ∷ 0 ∷ 0 ∷ 2 ∷ 1 ∷ 1 ∷ []) refl),
  record {
    digits = second_digits;
    spelled = record { below = all_below 32 second_digits refl; padding = 3; few = omega arith; filled = refl; same = refl };
    text_is = refl;
  },
)

-- ---- texts whose last letter stands for bits that no bytes have

eighths : (m r : ℕ) → 1 + 8 * r ≡ m * 8 → ⊥
eighths m r e = omega arith

no_text : (text : Bytes) (digits : List ℕ) (k r : ℕ) → below 32 digits ≡ true → text ≡ shown digits → 5 * length digits ≡ 8 * k + 3 → number 32 digits ≡ 1 + 8 * r → IsPrincipalText text → ⊥
no_text text digits k r small is filled odd (bytes, p, t) =
    let e : t.digits ≡ digits = shown_one t.digits digits t.spelled.below (all_below 32 digits small) (sym t.text_is ∙ is) in
    let s : IsBase32 (with_checksum bytes) digits = subst (λ d. IsBase32 (with_checksum bytes) d) e t.spelled in
    impossible (length (with_checksum bytes)) s.padding (number 256 (with_checksum bytes)) s.few (sym filled ∙ s.filled) (sym odd ∙ s.same)
  where
    impossible : (n q m : ℕ) → q < 5 → 8 * k + 3 ≡ 8 * n + q → 1 + 8 * r ≡ m * 2 ^ q → ⊥
    impossible n q m few f g =
        let three : q ≡ 3 = omega arith in
        eighths m r (subst (λ z. 1 + 8 * r ≡ m * 2 ^ z) three g)

abbrev odd : Bytes
odd = codes "aaaaa-ab"

odd_text : IsPrincipalText odd → ⊥
unfolding shown
odd_text = no_text odd (0 ∷ 0 ∷ 0 ∷ 0 ∷ 0 ∷ 0 ∷ 1 ∷ []) 4 0 refl refl refl refl

abbrev third : Bytes
third = codes "rrkah-fqaaa-aaaaa-aaaaq-caj"

abbrev third_digits : List ℕ
third_digits = 17 ∷ 17 ∷ 10 ∷ 0 ∷ 7 ∷ 5 ∷ 16 ∷ 0 ∷ 0 ∷ 0 ∷ 0 ∷ 0 ∷ 0 ∷ 0 ∷ 0 ∷ 0 ∷ 0 ∷ 0 ∷ 0 ∷ 16 ∷ 2 ∷ 0 ∷ 9 ∷ []

third_text : IsPrincipalText third → ⊥
unfolding shown
third_text = no_text third third_digits 14 (number 32 third_digits / 8) refl refl refl refl

-- ---- what is known of them

abbrev pub known_texts : List (Bytes × Bool)
known_texts = (management, true) ∷ (first, true) ∷ (second, true) ∷ (odd, false) ∷ (third, false) ∷ []

right : Each (λ e. Truth e.1 (IsPrincipalText e.0)) known_texts
right = (management_text, (first_text, (second_text, (odd_text, (third_text, tt)))))

abbrev pub chosen : Bool → Bool → Option Bool → Option Bool
chosen true b rest = Some b
chosen false b rest = rest

abbrev pub text_answer : List (Bytes × Bool) → Bytes → Option Bool
text_answer [] text = None
text_answer (e ∷ es) text = chosen (bytes_eq e.0 text) e.1 (text_answer es text)

one_answer : (e : Bytes × Bool) (text : Bytes) (same : Bool) (rest : Option Bool) (b : Bool) → (same ≡ true → e.0 ≡ text) → Truth e.1 (IsPrincipalText e.0)
    → (rest ≡ Some b → Truth b (IsPrincipalText text)) → chosen same e.1 rest ≡ Some b → Truth b (IsPrincipalText text)
one_answer e text true rest b f here there h =
    let is : e.1 ≡ b = cc in subst (λ c. Truth c (IsPrincipalText text)) is (subst (λ x. Truth e.1 (IsPrincipalText x)) (f refl) here)
one_answer e text false rest b f here there h = there h

each_answer : (es : List (Bytes × Bool)) → Each (λ e. Truth e.1 (IsPrincipalText e.0)) es → (text : Bytes) (b : Bool) → text_answer es text ≡ Some b → Truth b (IsPrincipalText text)
each_answer [] r text b h = cc
each_answer (e ∷ es) r text b h = one_answer e text (bytes_eq e.0 text) (text_answer es text) b (bytes_eq-Decides e.0 text).0 r.0 (each_answer es r.1 text b) h

pub answers_right : (text : Bytes) (b : Bool) → text_answer known_texts text ≡ Some b → Truth b (IsPrincipalText text)
answers_right text b h = each_answer known_texts right text b h
