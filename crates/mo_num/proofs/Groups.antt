-- Groups of five letters.
use Rattle.std.proofs.Common.{◌≡◌, ℕ, ◌<◌, ◌≤◌, Bool, true, false, List, [], ◌∷◌, ◌++◌, length, get_or, take, drop, map, refl, sym, ap, ◌∙◌, arith, length-take, length-drop, append_assoc}
use Rattle.std.proofs.lemmas.List.{take-append-drop}
use Rattle.std.proofs.Math.Seq.{drop-cons}
use Rattle.std.specs.Bool.{MatchBool}
use Rattle.std.specs.List.{AllByRecursion}
use Rattle.mo_num.specs.PrincipalText.{letter, grouped, shown}
use Rattle.mo_num.proofs.Letters.{map_length, below_append}

-- Up to five letters are one group.
pub one_group : (ds : List ℕ) → length ds ≤ 5 → shown ds ≡ map letter ds
unfolding shown
one_group [] h = refl
one_group (a ∷ []) h = refl
one_group (a ∷ b ∷ []) h = refl
one_group (a ∷ b ∷ c ∷ []) h = refl
one_group (a ∷ b ∷ c ∷ d ∷ []) h = refl
one_group (a ∷ b ∷ c ∷ d ∷ e ∷ []) h = refl
one_group (a ∷ b ∷ c ∷ d ∷ e ∷ f ∷ ds) h = absurd (omega arith)

-- More are a group, a dash and the rest.
pub next_group : (a b c d e f : ℕ) (ds : List ℕ) → shown (a ∷ b ∷ c ∷ d ∷ e ∷ f ∷ ds) ≡ letter a ∷ letter b ∷ letter c ∷ letter d ∷ letter e ∷ 45 ∷ shown (f ∷ ds)
unfolding shown
next_group a b c d e f ds = refl

grouped_some : (f : ℕ) (ds : List ℕ) → 1 ≤ length (grouped (f ∷ ds))
grouped_some f [] = omega arith
grouped_some f (a ∷ []) = omega arith
grouped_some f (a ∷ b ∷ []) = omega arith
grouped_some f (a ∷ b ∷ c ∷ []) = omega arith
grouped_some f (a ∷ b ∷ c ∷ d ∷ []) = omega arith
grouped_some f (a ∷ b ∷ c ∷ d ∷ e ∷ ds) = omega arith

pub shown_some : (f : ℕ) (ds : List ℕ) → 1 ≤ length (shown (f ∷ ds))
unfolding shown
shown_some f ds = grouped_some (letter f) (map letter ds)

-- A text that is longer shows more than five digits.
abbrev pub IsLong : List ℕ → List ℕ → Type 0
IsLong text ds = (five : List ℕ) × (rest : List ℕ) × (ds ≡ five ++ rest) × (take 5 text ≡ map letter five) × (get_or text 5 0 ≡ 45) × (drop 6 text ≡ shown rest) × (1 ≤ length (shown rest)) × (AllByRecursion (λ d. d < 32) ds → AllByRecursion (λ d. d < 32) five × AllByRecursion (λ d. d < 32) rest)

pub long_text : (text ds : List ℕ) → text ≡ shown ds → 6 ≤ length text → IsLong text ds
long_text text [] e h = absurd (omega (arith, ap length e, ap length (one_group [] (omega arith))))
long_text text (a ∷ []) e h = absurd (omega (arith, ap length e, ap length (one_group (a ∷ []) (omega arith))))
long_text text (a ∷ b ∷ []) e h = absurd (omega (arith, ap length e, ap length (one_group (a ∷ b ∷ []) (omega arith))))
long_text text (a ∷ b ∷ c ∷ []) e h = absurd (omega (arith, ap length e, ap length (one_group (a ∷ b ∷ c ∷ []) (omega arith))))
long_text text (a ∷ b ∷ c ∷ d ∷ []) e h = absurd (omega (arith, ap length e, ap length (one_group (a ∷ b ∷ c ∷ d ∷ []) (omega arith))))
long_text text (a ∷ b ∷ c ∷ d ∷ x ∷ []) e h = absurd (omega (arith, ap length e, ap length (one_group (a ∷ b ∷ c ∷ d ∷ x ∷ []) (omega arith))))
long_text text (a ∷ b ∷ c ∷ d ∷ x ∷ f ∷ ds) e h =
    let whole : text ≡ letter a ∷ letter b ∷ letter c ∷ letter d ∷ letter x ∷ 45 ∷ shown (f ∷ ds) = e ∙ next_group a b c d x f ds in (
      a ∷ b ∷ c ∷ d ∷ x ∷ [],
      f ∷ ds,
      refl,
      ap (λ l. take 5 l) whole,
      ap (λ l. get_or l 5 0) whole,
      ap (λ l. drop 6 l) whole,
      shown_some f ds,
      λ k. ((k.0, (k.1.0, (k.1.1.0, (k.1.1.1.0, (k.1.1.1.1.0, tt))))), k.1.1.1.1.1),
    )

pub short_more : (ds : List ℕ) → length (shown ds) ≤ 5 → length ds ≤ 5
short_more [] h = omega arith
short_more (a ∷ []) h = omega arith
short_more (a ∷ b ∷ []) h = omega arith
short_more (a ∷ b ∷ c ∷ []) h = omega arith
short_more (a ∷ b ∷ c ∷ d ∷ []) h = omega arith
short_more (a ∷ b ∷ c ∷ d ∷ e ∷ []) h = omega arith
short_more (a ∷ b ∷ c ∷ d ∷ e ∷ f ∷ ds) h = absurd (omega (arith, h, ap length (next_group a b c d e f ds)))

-- A group of letters, a dash and a text are a text.
cut : (text : List ℕ) → 6 ≤ length text → text ≡ take 5 text ++ get_or text 5 0 ∷ drop 6 text
cut text h =
    let less : 5 < length text = omega arith in
    sym (take-append-drop 5 text) ∙ ap (λ l. take 5 text ++ l) (drop-cons text 5 0 less)

glued : (text five rest : List ℕ) → 7 ≤ length text → length five ≡ 5 → 1 ≤ length rest → take 5 text ≡ map letter five → get_or text 5 0 ≡ 45 → drop 6 text ≡ shown rest → text ≡ shown (five ++ rest)
glued text [] rest h n m t g d = absurd (omega arith)
glued text (a ∷ []) rest h n m t g d = absurd (omega arith)
glued text (a ∷ b ∷ []) rest h n m t g d = absurd (omega arith)
glued text (a ∷ b ∷ c ∷ []) rest h n m t g d = absurd (omega arith)
glued text (a ∷ b ∷ c ∷ x ∷ []) rest h n m t g d = absurd (omega arith)
glued text (a ∷ b ∷ c ∷ x ∷ y ∷ z ∷ zs) rest h n m t g d = absurd (omega arith)
glued text (a ∷ b ∷ c ∷ x ∷ y ∷ []) [] h n m t g d = absurd (omega arith)
glued text (a ∷ b ∷ c ∷ x ∷ y ∷ []) (f ∷ ds) h n m t g d =
    cut text (omega arith)
    ∙ ap (λ l. l ++ get_or text 5 0 ∷ drop 6 text) t
    ∙ ap (λ k. map letter (a ∷ b ∷ c ∷ x ∷ y ∷ []) ++ k ∷ drop 6 text) g
    ∙ ap (λ l. map letter (a ∷ b ∷ c ∷ x ∷ y ∷ []) ++ 45 ∷ l) d
    ∙ sym (next_group a b c x y f ds)

rest_some : (text rest : List ℕ) → 7 ≤ length text → drop 6 text ≡ shown rest → 1 ≤ length rest
rest_some text [] h d = absurd (omega (arith, ap length d, length-drop 6 text, ap length (one_group [] (omega arith))))
rest_some text (r ∷ rs) h d = omega arith

joined : (text five rest : List ℕ) → 7 ≤ length text → take 5 text ≡ map letter five → get_or text 5 0 ≡ 45 → drop 6 text ≡ shown rest → text ≡ shown (five ++ rest)
joined text five rest h t g d =
    let n : length five ≡ 5 = omega (arith, ap length t, map_length five, length-take 5 text) in
    glued text five rest h n (rest_some text rest h d) t g d

-- What reading a whole text answers, from what reading its parts does.
abbrev pub Shows : List ℕ → List ℕ → List ℕ → Type 0
Shows old new text = (more : List ℕ) × (new ≡ old ++ more) × AllByRecursion (λ d. d < 32) more × (text ≡ shown more)

abbrev pub ShowsNone : List ℕ → Type 0
ShowsNone text = (more : List ℕ) → AllByRecursion (λ d. d < 32) more → text ≡ shown more → ⊥

abbrev pub HasLetters : List ℕ → List ℕ → List ℕ → Type 0
HasLetters old new text = (more : List ℕ) × (new ≡ old ++ more) × AllByRecursion (λ d. d < 32) more × (text ≡ map letter more)

abbrev pub HasNone : List ℕ → Type 0
HasNone text = (more : List ℕ) → AllByRecursion (λ d. d < 32) more → text ≡ map letter more → ⊥

pub short_text : (b : Bool) (old new text : List ℕ) → length text ≤ 5 → MatchBool b (HasLetters old new text) (HasNone text) → MatchBool b (Shows old new text) (ShowsNone text)
short_text true old new text few h = (h.0, h.1, h.2, h.3 ∙ sym (one_group h.0 (omega (arith, few, ap length h.3, map_length h.0))))
short_text false old new text few h = λ more below e. h more below (e ∙ one_group more (short_more more (omega (arith, few, ap length e))))

pub six_none : (text : List ℕ) → length text ≡ 6 → ShowsNone text
six_none text n more below e = let l = long_text text more e (omega arith) in omega (arith, n, ap length l.5, l.6, length-drop 6 text)

pub dash_none : (text : List ℕ) → 6 ≤ length text → (get_or text 5 0 ≡ 45 → ⊥) → ShowsNone text
dash_none text n other more below e = other (long_text text more e n).4

pub letters_none : (text : List ℕ) → 6 ≤ length text → HasNone (take 5 text) → ShowsNone text
letters_none text n none more below e = let l = long_text text more e n in none l.0 (l.7 below).0 l.3

pub long_answer : (b : Bool) (old mid new text : List ℕ) → 7 ≤ length text → get_or text 5 0 ≡ 45 → HasLetters old mid (take 5 text) → MatchBool b (Shows mid new (drop 6 text)) (ShowsNone (drop 6 text)) → MatchBool b (Shows old new text) (ShowsNone text)
long_answer true old mid new text n g five h = (five.0 ++ h.0, h.1 ∙ ap (λ l. l ++ h.0) five.1 ∙ append_assoc old five.0 h.0, below_append five.0 h.0 five.2 h.2, joined text five.0 h.0 n five.3 g h.3)
long_answer false old mid new text n g five h = λ more below e. let l = long_text text more e (omega arith) in h l.1 (l.7 below).1 l.5
