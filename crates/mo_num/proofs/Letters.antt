-- Letters and groups of them.
use Rattle.std.proofs.Common.{◌≡◌, ℕ, zero, suc, ◌+◌, ◌<◌, ◌≤◌, true, false, List, [], ◌∷◌, ◌++◌, length, get_or, map, refl, sym, ap, ◌∙◌, arith, inl, inr, length-append, append_assoc}
use Rattle.std.specs.Prelude.{nat_lt}
use Rattle.std.specs.List.{AllByRecursion}
use Rattle.std.proofs.lemmas.Bool.{cases_lt, lt-ltb, le-ltb}
use Rattle.mo_num.specs.PrincipalText.{letter}

-- New is old and then digits whose letters are the text.
pub record Reads (old new text : List ℕ) : Type 0 where
  pub more : List ℕ
  pub appended : new ≡ old ++ more
  pub below : AllByRecursion (λ d. d < 32) more
  pub letters : text ≡ map letter more

append_none : (l : List ℕ) → l ++ [] ≡ l
append_none [] = refl
append_none (x ∷ xs) = ap (λ r. x ∷ r) (append_none xs)

map_more : (xs : List ℕ) (d : ℕ) → map letter (xs ++ d ∷ []) ≡ map letter xs ++ letter d ∷ []
map_more [] d = refl
map_more (x ∷ xs) d = ap (λ r. letter x ∷ r) (map_more xs d)

pub map_length : (xs : List ℕ) → length (map letter xs) ≡ length xs
map_length [] = refl
map_length (x ∷ xs) = ap suc (map_length xs)

below_more : (xs : List ℕ) (d : ℕ) → AllByRecursion (λ x. x < 32) xs → d < 32 → AllByRecursion (λ x. x < 32) (xs ++ d ∷ [])
below_more [] d h k = (k, tt)
below_more (x ∷ xs) d h k = (h.0, below_more xs d h.1 k)

pub below_append : (xs ys : List ℕ) → AllByRecursion (λ x. x < 32) xs → AllByRecursion (λ x. x < 32) ys → AllByRecursion (λ x. x < 32) (xs ++ ys)
below_append [] ys h k = k
below_append (x ∷ xs) ys h k = (h.0, below_append xs ys h.1 k)

pub reads_none : (old : List ℕ) → Reads old old []
reads_none old = record { more = []; appended = sym (append_none old); below = tt; letters = refl }

pub reads_more : (old new new' text text' : List ℕ) (d c : ℕ) → Reads old new text → d < 32 → c ≡ letter d → new' ≡ new ++ d ∷ [] → text' ≡ text ++ c ∷ [] → Reads old new' text'
reads_more old new new' text text' d c r small is n t = record {
  more = r.more ++ d ∷ [];
  appended = n ∙ ap (λ l. l ++ d ∷ []) r.appended ∙ append_assoc old r.more (d ∷ []);
  below = below_more r.more d r.below small;
  letters = t ∙ ap (λ l. l ++ c ∷ []) r.letters ∙ ap (λ l. map letter r.more ++ l ∷ []) is ∙ sym (map_more r.more d);
}

pub reads_length : (old new text : List ℕ) → Reads old new text → length new ≡ length old + length text
reads_length old new text r = omega (arith, ap length r.appended, length-append old r.more, ap length r.letters, map_length r.more)

-- Each place of letters has a digit.
pub letter_at : (text more : List ℕ) (i : ℕ) → text ≡ map letter more → AllByRecursion (λ d. d < 32) more → i < length text → (d : ℕ) × (d < 32) × (get_or text i 0 ≡ letter d)
letter_at [] more i e h lt = absurd (omega arith)
letter_at (t ∷ ts) [] i e h lt = cc
letter_at (t ∷ ts) (m ∷ ms) zero e h lt = let x : t ≡ letter m = cc in (m, h.0, x)
letter_at (t ∷ ts) (m ∷ ms) (suc i) e h lt = let x : ts ≡ map letter ms = cc in letter_at ts ms i x h.1 (omega arith)

-- A letter has one digit.
letter_low : (d : ℕ) → d < 26 → letter d ≡ 97 + d
letter_low d h = let t : nat_lt d 26 ≡ true = lt-ltb d 26 h in rw t

letter_high : (d : ℕ) → 26 ≤ d → letter d ≡ 24 + d
letter_high d h = let t : nat_lt d 26 ≡ false = le-ltb d 26 h in rw t

pub letter_one : (d e : ℕ) → d < 32 → e < 32 → letter d ≡ letter e → d ≡ e
letter_one d e p q h = elim (cases_lt d 26) [
  | inl a ↦ elim (cases_lt e 26) [
    | inl b ↦ omega (arith, letter_low d a, letter_low e b, h)
    | inr b ↦ absurd (omega (arith, letter_low d a, letter_high e b, h))
  ]
  | inr a ↦ elim (cases_lt e 26) [
    | inl b ↦ absurd (omega (arith, letter_high d a, letter_low e b, h))
    | inr b ↦ omega (arith, letter_high d a, letter_high e b, h)
  ]
]

pub letters_one : (xs ys : List ℕ) → AllByRecursion (λ d. d < 32) xs → AllByRecursion (λ d. d < 32) ys → map letter xs ≡ map letter ys → xs ≡ ys
letters_one [] [] h k e = refl
letters_one [] (y ∷ ys) h k e = cc
letters_one (x ∷ xs) [] h k e = cc
letters_one (x ∷ xs) (y ∷ ys) h k e =
    let a : letter x ≡ letter y = cc in
    let b : map letter xs ≡ map letter ys = cc in
    let c : x ≡ y = letter_one x y h.0 k.0 a in
    let d : xs ≡ ys = letters_one xs ys h.1 k.1 b in
    cc
