-- A text is read in one way: a token at a time, and words as far as they go.
use Rattle.std.proofs.Common.{◌≡◌, ◌≢◌, ℕ, ◌+◌, ◌<◌, ◌≤◌, List, [], ◌∷◌, ◌++◌, length, Bool, true, false, not, cond, refl, ap, sym, ◌∙◌, subst, arith, ◌&&◌, drop, map, drop-cons, add-one, get_or}
use Rattle.std.proofs.lemmas.List.{append_cancel_left, drop_all}
use Rattle.std.specs.List.{AllByRecursion}
use Rattle.std.proofs.lemmas.Bool.Decides.{nat_tests}
use Rattle.query_source.specs.Tokens.{is_blank, is_letter, is_digit, is_word_byte, begins_word, AreAll, Next, Reads}
use Rattle.query_source.specs.Reading.{after_blanks, word_of, after_word, is_solid}

-- blanks are passed over
after_blanks_of : (blanks s : List ℕ) → AreAll is_blank blanks → after_blanks (blanks ++ s) ≡ after_blanks s
after_blanks_of [] s h = refl
after_blanks_of (b ∷ bs) s h = rw h.0 (after_blanks_of bs s h.1)

after_solid : (s : List ℕ) → is_solid s ≡ true → after_blanks s ≡ s
after_solid [] h = refl
after_solid (b ∷ bs) h = let blank : is_blank b ≡ false = grind arith in rw blank refl

record BlanksBefore (s : List ℕ) : Type 0 where
  blanks : List ℕ
  only : AreAll is_blank blanks
  whole : s ≡ blanks ++ after_blanks s

before_more : (b : ℕ) (bs : List ℕ) (t : Bool) → is_blank b ≡ t → BlanksBefore bs → BlanksBefore (b ∷ bs)
before_more b bs true e h = record { blanks = b ∷ h.blanks; only = (e, h.only); whole = rw e (ap (λ xs. b ∷ xs) h.whole) }
before_more b bs false e h = record { blanks = []; only = tt; whole = rw e refl }

blanks_before : (s : List ℕ) → BlanksBefore s
blanks_before [] = record { blanks = []; only = tt; whole = refl }
blanks_before (b ∷ bs) = before_more b bs (is_blank b) refl (blanks_before bs)

solid_append : (t r : List ℕ) → is_solid t ≡ true → is_solid (t ++ r) ≡ true
solid_append [] r h = absurd (cc)
solid_append (b ∷ bs) r h = h

-- the token stands behind the blanks
pub next_after : (t s rest : List ℕ) → is_solid t ≡ true → Next t s rest → after_blanks s ≡ t ++ rest
next_after t s rest solid n = ap after_blanks n.whole ∙ after_blanks_of n.blanks (t ++ rest) n.only_blanks ∙ after_solid (t ++ rest) (solid_append t rest solid)

next_made : (t s rest : List ℕ) → after_blanks s ≡ t ++ rest → (begins_word t ≡ true → begins_word rest ≡ false) → Next t s rest
next_made t s rest e apart =
    let b : BlanksBefore s = blanks_before s in
    record { blanks = b.blanks; only_blanks = b.only; whole = b.whole ∙ ap (λ xs. b.blanks ++ xs) e; apart = apart }

pub next_same : (t s r q : List ℕ) → is_solid t ≡ true → Next t s r → Next t s q → r ≡ q
next_same t s r q solid a b = append_cancel_left t r q (sym (next_after t s r solid a) ∙ next_after t s q solid b)

-- a token that isn't there, and one that is
pub not_next : (t s a : List ℕ) → is_solid t ≡ true → a ≡ after_blanks s → ((rest : List ℕ) → a ≢ t ++ rest) → (rest : List ℕ) → Next t s rest → ⊥
not_next t s a solid e absent rest n = absent rest (e ∙ next_after t s rest solid n)

pub runs_on : (t s a r : List ℕ) → is_solid t ≡ true → a ≡ after_blanks s → a ≡ t ++ r → not (begins_word t && begins_word r) ≡ false → (rest : List ℕ) → Next t s rest → ⊥
runs_on t s a r solid e at joins rest n =
    let same : r ≡ rest = append_cancel_left t r rest (sym at ∙ e ∙ next_after t s rest solid n) in
    let word : begins_word t ≡ true = grind arith in
    let after : begins_word r ≡ true = grind arith in
    let apart : begins_word rest ≡ false = n.apart word in
    cc (ap begins_word same)

pub is_next : (t s a r : List ℕ) → a ≡ after_blanks s → a ≡ t ++ r → not (begins_word t && begins_word r) ≡ true → Next t s r
is_next t s a r e at parted = next_made t s r (sym e ∙ at) (λ w. grind arith)

-- The tokens from i on are to be read from here just where all are to be read from the begin.
pub record Goes {X : Type 0} (f : X → List ℕ) (tokens : List X) (i : ℕ) (text here : List ℕ) : Type 0 where
  pub on : (rest : List ℕ) → Reads (map f (drop i tokens)) here rest → Reads (map f tokens) text rest
  pub back : (rest : List ℕ) → Reads (map f tokens) text rest → Reads (map f (drop i tokens)) here rest

drop_at : {X : Type 0} (xs : List X) (i : ℕ) (d : X) → i < length xs → drop i xs ≡ get_or xs i d ∷ drop (i + 1) xs
drop_at xs i d h = rw (add-one, drop-cons xs i d) refl

pub goes_on : {X : Type 0} (f : X → List ℕ) (tokens : List X) (i : ℕ) (d : X) (text here after : List ℕ) → i < length tokens → is_solid (f (get_or tokens i d)) ≡ true → Next (f (get_or tokens i d)) here after → Goes f tokens i text here → Goes f tokens (i + 1) text after
goes_on f tokens i d text here after h solid n g =
    let x = get_or tokens i d in
    let at : drop i tokens ≡ x ∷ drop (i + 1) tokens = drop_at tokens i d h in
    record {
      on = λ rest r. g.on rest (subst (λ ts. Reads (map f ts) here rest) (sym at) (after, n, r));
      back = λ rest r.
          let there : Reads (f x ∷ map f (drop (i + 1) tokens)) here rest = subst (λ ts. Reads (map f ts) here rest) at (g.back rest r) in
          subst (λ m. Reads (map f (drop (i + 1) tokens)) m rest) (next_same (f x) here there.0 after solid there.1 n) there.2;
    }

pub goes_nowhere : {X : Type 0} (f : X → List ℕ) (tokens : List X) (i : ℕ) (d : X) (text here : List ℕ) → i < length tokens → ((rest : List ℕ) → Next (f (get_or tokens i d)) here rest → ⊥) → Goes f tokens i text here → (rest : List ℕ) → Reads (map f tokens) text rest → ⊥
goes_nowhere f tokens i d text here h absent g rest r =
    let x = get_or tokens i d in
    let there : Reads (f x ∷ map f (drop (i + 1) tokens)) here rest = subst (λ ts. Reads (map f ts) here rest) (drop_at tokens i d h) (g.back rest r) in
    absent there.0 there.1

pub goes_all : {X : Type 0} (f : X → List ℕ) (tokens : List X) (i : ℕ) (text here : List ℕ) → length tokens ≤ i → Goes f tokens i text here → Reads (map f tokens) text here
goes_all f tokens i text here h g = g.on here (subst (λ ts. Reads (map f ts) here here) (sym (drop_all i tokens h)) refl)

-- the letters and digits at the begin are a word
word_split : (s : List ℕ) → s ≡ word_of s ++ after_word s
word_split [] = refl
word_split (b ∷ bs) = elim (is_word_byte b) as (λ t. b ∷ bs ≡ cond t (b ∷ word_of bs) [] ++ cond t (after_word bs) (b ∷ bs)) [ true ↦ ap (λ xs. b ∷ xs) (word_split bs) | false ↦ refl ]

word_ends_more : (b : ℕ) (bs : List ℕ) (t : Bool) → is_word_byte b ≡ t → begins_word (after_word bs) ≡ false → begins_word (cond t (after_word bs) (b ∷ bs)) ≡ false
word_ends_more b bs true e h = h
word_ends_more b bs false e h = e

word_ends : (s : List ℕ) → begins_word (after_word s) ≡ false
word_ends [] = refl
word_ends (b ∷ bs) = word_ends_more b bs (is_word_byte b) refl (word_ends bs)

stop : (r : List ℕ) → begins_word r ≡ false → (word_of r ≡ []) × (after_word r ≡ r)
stop [] h = (refl, refl)
stop (b ∷ bs) h = (rw h refl, rw h refl)

-- and the only one that stands there
word_is : (t r : List ℕ) → AreAll is_word_byte t → begins_word r ≡ false → (word_of (t ++ r) ≡ t) × (after_word (t ++ r) ≡ r)
word_is [] r all h = stop r h
word_is (b ∷ bs) r all h =
    let more : (word_of (bs ++ r) ≡ bs) × (after_word (bs ++ r) ≡ r) = word_is bs r all.1 h in
    (rw all.0 (ap (λ xs. b ∷ xs) more.0), rw all.0 more.1)

word_no_blank : (b : ℕ) → is_word_byte b ≡ true → not (is_blank b) ≡ true
word_no_blank b h = grind (arith, nat_tests)

digit_word : (b : ℕ) → is_digit b ≡ true → is_word_byte b ≡ true
digit_word b h = grind (arith, nat_tests)

word_solid : (t : List ℕ) → t ≢ [] → AreAll is_word_byte t → (is_solid t ≡ true) × (begins_word t ≡ true)
word_solid [] some all = absurd (some refl)
word_solid (b ∷ bs) some all = (word_no_blank b all.0, all.0)

pub word_next : (s t r : List ℕ) → t ≡ word_of (after_blanks s) → r ≡ after_word (after_blanks s) → Next t s r
word_next s t r t_is r_is = next_made t s r (word_split (after_blanks s) ∙ ap (λ x. x ++ after_word (after_blanks s)) (sym t_is) ∙ ap (λ y. t ++ y) (sym r_is)) (λ _. ap begins_word r_is ∙ word_ends (after_blanks s))

pub next_word : (s t r rest : List ℕ) (u : List ℕ) → u ≡ word_of (after_blanks s) → r ≡ after_word (after_blanks s) → t ≢ [] → AreAll is_word_byte t → Next t s rest → (t ≡ u) × (rest ≡ r)
next_word s t r rest u u_is r_is some all n =
    let solid : (is_solid t ≡ true) × (begins_word t ≡ true) = word_solid t some all in
    let at : after_blanks s ≡ t ++ rest = next_after t s rest solid.0 n in
    let parts : (word_of (t ++ rest) ≡ t) × (after_word (t ++ rest) ≡ rest) = word_is t rest all (n.apart solid.1) in
    (sym (u_is ∙ ap word_of at ∙ parts.0), sym (r_is ∙ ap after_word at ∙ parts.1))

pub letters_word : (t : List ℕ) → AreAll is_letter t → AreAll is_word_byte t
letters_word [] all = tt
letters_word (b ∷ bs) all = (rw all.0 refl, letters_word bs all.1)

pub digits_word : (t : List ℕ) → AreAll is_digit t → AreAll is_word_byte t
digits_word [] all = tt
digits_word (b ∷ bs) all = (digit_word b all.0, digits_word bs all.1)

-- a list of tokens is read in one way
pub reads_same : (ts : List (List ℕ)) (s r q : List ℕ) → AllByRecursion (λ t. is_solid t ≡ true) ts → Reads ts s r → Reads ts s q → r ≡ q
reads_same [] s r q solid a b = sym a ∙ b
reads_same (t ∷ ts) s r q solid a b =
    reads_same ts a.0 r q solid.1 a.2 (subst (λ m. Reads ts m q) (sym (next_same t s a.0 b.0 solid.0 a.1 b.1)) b.2)

-- blanks alone
pub blanks_left : (s : List ℕ) → AreAll is_blank s → after_blanks s ≡ []
blanks_left [] h = refl
blanks_left (b ∷ bs) h = rw h.0 (blanks_left bs h.1)

blanks_only_more : (b : ℕ) (bs : List ℕ) (t : Bool) → is_blank b ≡ t → (after_blanks bs ≡ [] → AreAll is_blank bs) → cond t (after_blanks bs) (b ∷ bs) ≡ [] → AreAll is_blank (b ∷ bs)
blanks_only_more b bs true e more h = (e, more h)
blanks_only_more b bs false e more h = absurd (cc)

pub blanks_only : (s : List ℕ) → after_blanks s ≡ [] → AreAll is_blank s
blanks_only [] h = tt
blanks_only (b ∷ bs) h = blanks_only_more b bs (is_blank b) refl (blanks_only bs) h
