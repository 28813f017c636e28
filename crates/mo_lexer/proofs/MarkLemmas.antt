-- Marks: what the code finds is the longest one, and there is only one.
use Rattle.std.proofs.Common.{lit<, ◌≡◌, ℕ, suc, ◌+◌, ◌<◌, ◌≤◌, Bool, true, false, List, [], ◌∷◌, ◌++◌, length, take, drop, get_or, ◌-◌, Option, Some, None, refl, sym, ap, ◌∙◌, subst, arith, length-append, append_assoc}
use Rattle.std.specs.Prelude.{if◌then◌else◌, ◌==◌}
use Rattle.std.proofs.lemmas.Bool.{eqb-true}
use Rattle.std.proofs.lemmas.List.{append-nil}
use Rattle.mo_syntax.specs.declared.mark.Mark.{Mark}
use Rattle.mo_syntax.specs.declared.mark.Mark.TheVariants as m
use Rattle.mo_syntax.specs.declared.before.Before.{Before}
use Rattle.mo_syntax.specs.Words.{mark_text}
use Rattle.mo_syntax.specs.Lexed.{IsLongestMark, is_between_blanks, is_tag, Fits}
use Rattle.mo_lexer.specs.Marks.{first_mark, with_equal, with_percent, with_star, with_greater, with_colon, longer_mark, longest_of, longest_mark, mark_from, mark_at, in_context}
use Rattle.mo_lexer.proofs.Tools.{if_true, if_false, tested, slice_rest}

same_mark : (x y : Mark) → Some x ≡ Some y → x ≡ y
same_mark x y h = cc

-- a mark without what stands beside it
abbrev pub plain : Mark → Mark
plain m.AngleOpen = m.Less
plain m.AngleClose = m.Greater
plain m.Tag = m.Concat
plain mark = mark

pub plain_text : (mark : Mark) → mark_text (plain mark) ≡ mark_text mark
plain_text m.AngleOpen = refl
plain_text m.AngleClose = refl
plain_text m.Tag = refl
plain_text _ = refl

with_equal_text : (mark longer : Mark) → with_equal mark ≡ Some longer → mark_text longer ≡ mark_text mark ++ 61 ∷ []
with_equal_text m.EqualSign longer h = ap mark_text (sym (same_mark m.Equal longer h))
with_equal_text m.Bang longer h = ap mark_text (sym (same_mark m.NotEqual longer h))
with_equal_text m.Less longer h = ap mark_text (sym (same_mark m.LessEqual longer h))
with_equal_text m.Greater longer h = ap mark_text (sym (same_mark m.GreaterEqual longer h))
with_equal_text m.Colon longer h = ap mark_text (sym (same_mark m.Assign longer h))
with_equal_text m.Plus longer h = ap mark_text (sym (same_mark m.PlusAssign longer h))
with_equal_text m.Minus longer h = ap mark_text (sym (same_mark m.MinusAssign longer h))
with_equal_text m.Star longer h = ap mark_text (sym (same_mark m.StarAssign longer h))
with_equal_text m.Slash longer h = ap mark_text (sym (same_mark m.SlashAssign longer h))
with_equal_text m.Percent longer h = ap mark_text (sym (same_mark m.PercentAssign longer h))
with_equal_text m.Power longer h = ap mark_text (sym (same_mark m.PowerAssign longer h))
with_equal_text m.Concat longer h = ap mark_text (sym (same_mark m.ConcatAssign longer h))
with_equal_text m.PlusWrap longer h = ap mark_text (sym (same_mark m.PlusWrapAssign longer h))
with_equal_text m.MinusWrap longer h = ap mark_text (sym (same_mark m.MinusWrapAssign longer h))
with_equal_text m.StarWrap longer h = ap mark_text (sym (same_mark m.StarWrapAssign longer h))
with_equal_text _ longer h = absurd (cc)

with_percent_text : (mark longer : Mark) → with_percent mark ≡ Some longer → mark_text longer ≡ mark_text mark ++ 37 ∷ []
with_percent_text m.Plus longer h = ap mark_text (sym (same_mark m.PlusWrap longer h))
with_percent_text m.Minus longer h = ap mark_text (sym (same_mark m.MinusWrap longer h))
with_percent_text m.Star longer h = ap mark_text (sym (same_mark m.StarWrap longer h))
with_percent_text _ longer h = absurd (cc)

with_star_text : (mark longer : Mark) → with_star mark ≡ Some longer → mark_text longer ≡ mark_text mark ++ 42 ∷ []
with_star_text m.Star longer h = ap mark_text (sym (same_mark m.Power longer h))
with_star_text _ longer h = absurd (cc)

with_greater_text : (mark longer : Mark) → with_greater mark ≡ Some longer → mark_text longer ≡ mark_text mark ++ 62 ∷ []
with_greater_text m.Minus longer h = ap mark_text (sym (same_mark m.Arrow longer h))
with_greater_text _ longer h = absurd (cc)

with_colon_text : (mark longer : Mark) → with_colon mark ≡ Some longer → mark_text longer ≡ mark_text mark ++ 58 ∷ []
with_colon_text m.Less longer h = ap mark_text (sym (same_mark m.Subtype longer h))
with_colon_text _ longer h = absurd (cc)

-- one test of a chain of them
chosen : (b k : ℕ) (one other : Option Mark) (r : Option Mark) {C : Type 0} → (if b == k then one else other) ≡ r → (b ≡ k → one ≡ r → C) → (other ≡ r → C) → C
chosen b k one other r h here there = tested (b == k)
    (λ same. here (eqb-true b k same) (sym (if_true (b == k) one other same) ∙ h))
    (λ differs. there (sym (if_false (b == k) one other differs) ∙ h))

with_byte : (mark longer : Mark) (b k : ℕ) → b ≡ k → mark_text longer ≡ mark_text mark ++ k ∷ [] → mark_text longer ≡ mark_text mark ++ b ∷ []
with_byte mark longer b k e h = h ∙ ap (λ x. mark_text mark ++ x ∷ []) (sym e)

pub longer_text : (mark longer : Mark) (b : ℕ) → longer_mark mark b ≡ Some longer → mark_text longer ≡ mark_text mark ++ b ∷ []
longer_text mark longer b h =
    chosen b 61 (with_equal mark) _ (Some longer) h (λ e g. with_byte mark longer b 61 e (with_equal_text mark longer g)) (λ h2.
    chosen b 37 (with_percent mark) _ (Some longer) h2 (λ e g. with_byte mark longer b 37 e (with_percent_text mark longer g)) (λ h3.
    chosen b 42 (with_star mark) _ (Some longer) h3 (λ e g. with_byte mark longer b 42 e (with_star_text mark longer g)) (λ h4.
    chosen b 62 (with_greater mark) _ (Some longer) h4 (λ e g. with_byte mark longer b 62 e (with_greater_text mark longer g)) (λ h5.
    chosen b 58 (with_colon mark) None (Some longer) h5 (λ e g. with_byte mark longer b 58 e (with_colon_text mark longer g)) (λ h6. absurd (cc))))))

first_is : (one mark : Mark) (b k : ℕ) → mark_text one ≡ k ∷ [] → b ≡ k → Some one ≡ Some mark → mark_text mark ≡ b ∷ []
first_is one mark b k t e h = ap mark_text (sym (same_mark one mark h)) ∙ t ∙ ap (λ x. x ∷ []) (sym e)

pub first_text : (mark : Mark) (b : ℕ) → first_mark b ≡ Some mark → mark_text mark ≡ b ∷ []
first_text mark b h =
    chosen b 43 (Some m.Plus) _ (Some mark) h (λ e g. first_is m.Plus mark b 43 refl e g) (λ h1.
    chosen b 45 (Some m.Minus) _ (Some mark) h1 (λ e g. first_is m.Minus mark b 45 refl e g) (λ h2.
    chosen b 42 (Some m.Star) _ (Some mark) h2 (λ e g. first_is m.Star mark b 42 refl e g) (λ h3.
    chosen b 47 (Some m.Slash) _ (Some mark) h3 (λ e g. first_is m.Slash mark b 47 refl e g) (λ h4.
    chosen b 37 (Some m.Percent) _ (Some mark) h4 (λ e g. first_is m.Percent mark b 37 refl e g) (λ h5.
    chosen b 35 (Some m.Concat) _ (Some mark) h5 (λ e g. first_is m.Concat mark b 35 refl e g) (λ h6.
    chosen b 60 (Some m.Less) _ (Some mark) h6 (λ e g. first_is m.Less mark b 60 refl e g) (λ h7.
    chosen b 62 (Some m.Greater) _ (Some mark) h7 (λ e g. first_is m.Greater mark b 62 refl e g) (λ h8.
    chosen b 61 (Some m.EqualSign) _ (Some mark) h8 (λ e g. first_is m.EqualSign mark b 61 refl e g) (λ h9.
    chosen b 58 (Some m.Colon) _ (Some mark) h9 (λ e g. first_is m.Colon mark b 58 refl e g) (λ h10.
    chosen b 59 (Some m.Semicolon) _ (Some mark) h10 (λ e g. first_is m.Semicolon mark b 59 refl e g) (λ h11.
    chosen b 44 (Some m.Comma) _ (Some mark) h11 (λ e g. first_is m.Comma mark b 44 refl e g) (λ h12.
    chosen b 46 (Some m.Dot) _ (Some mark) h12 (λ e g. first_is m.Dot mark b 46 refl e g) (λ h13.
    chosen b 63 (Some m.Question) _ (Some mark) h13 (λ e g. first_is m.Question mark b 63 refl e g) (λ h14.
    chosen b 33 (Some m.Bang) _ (Some mark) h14 (λ e g. first_is m.Bang mark b 33 refl e g) (λ h15.
    chosen b 40 (Some m.ParenOpen) _ (Some mark) h15 (λ e g. first_is m.ParenOpen mark b 40 refl e g) (λ h16.
    chosen b 41 (Some m.ParenClose) _ (Some mark) h16 (λ e g. first_is m.ParenClose mark b 41 refl e g) (λ h17.
    chosen b 91 (Some m.BracketOpen) _ (Some mark) h17 (λ e g. first_is m.BracketOpen mark b 91 refl e g) (λ h18.
    chosen b 93 (Some m.BracketClose) _ (Some mark) h18 (λ e g. first_is m.BracketClose mark b 93 refl e g) (λ h19.
    chosen b 123 (Some m.BraceOpen) _ (Some mark) h19 (λ e g. first_is m.BraceOpen mark b 123 refl e g) (λ h20.
    chosen b 125 (Some m.BraceClose) None (Some mark) h20 (λ e g. first_is m.BraceClose mark b 125 refl e g) (λ h21.
    absurd (cc))))))))))))))))))))))

-- the mark at the end of the bytes
abbrev and_longer : Option Mark → ℕ → Option Mark
and_longer None b = None
and_longer (Some mark) b = longer_mark mark b

abbrev walk_on : Option Mark → List ℕ → Option Mark
walk_on o [] = o
walk_on o (b ∷ bs) = walk_on (and_longer o b) bs

abbrev pub walk : List ℕ → Option Mark
walk [] = None
walk (b ∷ bs) = walk_on (first_mark b) bs

walk_on_append : (o : Option Mark) (xs ys : List ℕ) → walk_on o (xs ++ ys) ≡ walk_on (walk_on o xs) ys
walk_on_append o [] ys = refl
walk_on_append o (x ∷ xs) ys = walk_on_append (and_longer o x) xs ys

walk_append : (mark : Mark) (xs ys : List ℕ) → walk xs ≡ Some mark → walk (xs ++ ys) ≡ walk_on (Some mark) ys
walk_append mark [] ys h = absurd (cc)
walk_append mark (x ∷ xs) ys h = walk_on_append (first_mark x) xs ys ∙ ap (λ o. walk_on o ys) h

walk_none : (xs : List ℕ) → walk_on None xs ≡ None
walk_none [] = refl
walk_none (x ∷ xs) = walk_none xs

abbrev pub IsUnderscore : Mark → Type 0
IsUnderscore m.Underscore = Unit {0}
IsUnderscore _ = ⊥

pub walk_text : (mark : Mark) → (IsUnderscore mark → ⊥) → walk (mark_text mark) ≡ Some (plain mark)
walk_text m.Plus h = refl
walk_text m.Minus h = refl
walk_text m.Star h = refl
walk_text m.Slash h = refl
walk_text m.Percent h = refl
walk_text m.Power h = refl
walk_text m.PlusWrap h = refl
walk_text m.MinusWrap h = refl
walk_text m.StarWrap h = refl
walk_text m.Concat h = refl
walk_text m.Equal h = refl
walk_text m.NotEqual h = refl
walk_text m.Less h = refl
walk_text m.Greater h = refl
walk_text m.LessEqual h = refl
walk_text m.GreaterEqual h = refl
walk_text m.Assign h = refl
walk_text m.PlusAssign h = refl
walk_text m.MinusAssign h = refl
walk_text m.StarAssign h = refl
walk_text m.SlashAssign h = refl
walk_text m.PercentAssign h = refl
walk_text m.PowerAssign h = refl
walk_text m.ConcatAssign h = refl
walk_text m.PlusWrapAssign h = refl
walk_text m.MinusWrapAssign h = refl
walk_text m.StarWrapAssign h = refl
walk_text m.EqualSign h = refl
walk_text m.Colon h = refl
walk_text m.Semicolon h = refl
walk_text m.Comma h = refl
walk_text m.Dot h = refl
walk_text m.Question h = refl
walk_text m.Bang h = refl
walk_text m.ParenOpen h = refl
walk_text m.ParenClose h = refl
walk_text m.BracketOpen h = refl
walk_text m.BracketClose h = refl
walk_text m.BraceOpen h = refl
walk_text m.BraceClose h = refl
walk_text m.Arrow h = refl
walk_text m.Subtype h = refl
walk_text m.Underscore h = absurd (h tt)
walk_text m.AngleOpen h = refl
walk_text m.AngleClose h = refl
walk_text m.Tag h = refl

underscore_text : (mark : Mark) → IsUnderscore mark → mark_text mark ≡ 95 ∷ []
underscore_text m.Underscore h = refl
underscore_text _ h = absurd h

is_underscore : (mark : Mark) {C : Type 0} → (IsUnderscore mark → C) → ((IsUnderscore mark → ⊥) → C) → C
is_underscore m.Underscore here there = here tt
is_underscore _ here there = there (λ h. h)

-- a mark that the walk reaches
abbrev pub Reached : Mark → Type 0
Reached mark = walk (mark_text mark) ≡ Some mark

-- no mark is this one with the next byte
abbrev pub Ended : Mark → List ℕ → Type 0
Ended mark [] = Unit {0}
Ended mark (b ∷ rest) = longer_mark mark b ≡ None

pub reached_some : (mark : Mark) → Reached mark → 0 < length (mark_text mark)
reached_some mark h = some (mark_text mark) mark h
  where
    some : (text : List ℕ) (x : Mark) → walk text ≡ Some x → 0 < length text
    some [] x h = absurd (cc)
    some (b ∷ text) x h = omega arith

pub longest_from_ended : (mark : Mark) (rest : List ℕ) → Reached mark → Ended mark rest → IsLongestMark mark rest
longest_from_ended mark rest r ended longer [] tail e t = refl
longest_from_ended mark [] r ended longer (b ∷ more) tail e t = absurd (cc)
longest_from_ended mark (c ∷ rest) r ended longer (b ∷ more) tail e t =
    let same : c ≡ b = cc in
    let stuck : walk (mark_text mark ++ b ∷ more) ≡ None = walk_append mark (mark_text mark) (b ∷ more) r ∙ ap (λ o. walk_on o more) (ap (longer_mark mark) (sym same) ∙ ended) ∙ walk_none more in
    is_underscore longer
    (λ low.
    let short : length (mark_text longer) ≡ 1 = ap length (underscore_text longer low) in
    let long : length (mark_text longer) ≡ length (mark_text mark) + suc (length more) = ap length t ∙ length-append (mark_text mark) (b ∷ more) in
    let some = reached_some mark r in
    absurd (omega arith))
    (λ other. let found : walk (mark_text mark ++ b ∷ more) ≡ Some (plain longer) = ap walk (sym t) ∙ walk_text longer other in absurd (cc))

pub ended_from_longest : (mark : Mark) (rest : List ℕ) → IsLongestMark mark rest → Ended (plain mark) rest
ended_from_longest mark [] h = tt
ended_from_longest mark (b ∷ rest) h = by_longer (longer_mark (plain mark) b) refl
  where
    by_longer : (o : Option Mark) → longer_mark (plain mark) b ≡ o → longer_mark (plain mark) b ≡ None
    by_longer None e = e
    by_longer (Some longer) e =
        let t : mark_text longer ≡ mark_text mark ++ b ∷ [] = longer_text (plain mark) longer b e ∙ ap (λ l. l ++ b ∷ []) (plain_text mark) in
        let none : b ∷ [] ≡ [] = h longer (b ∷ []) rest refl t in absurd (cc)

-- what `longest_mark` gives
pub record Longest (mark : Mark) (rest : List ℕ) (longest : Mark) : Type 0 where
  pub more : List ℕ
  pub tail : List ℕ
  pub split : rest ≡ more ++ tail
  pub text : mark_text longest ≡ mark_text mark ++ more
  pub reached : Reached longest
  pub ended : Ended longest tail

longest_step : (mark : Mark) (b : ℕ) (rest : List ℕ) (o : Option Mark) → longer_mark mark b ≡ o → Reached mark → ((longer : Mark) → Reached longer → Longest longer rest (longest_mark longer rest)) →
    Longest mark (b ∷ rest) (longest_of mark (λ longer. longest_mark longer rest) o)
longest_step mark b rest None e r further = record { more = []; tail = b ∷ rest; split = refl; text = sym (append-nil (mark_text mark)); reached = r; ended = e }
longest_step mark b rest (Some longer) e r further =
    let t = longer_text mark longer b e in
    let reached : Reached longer = ap walk t ∙ walk_append mark (mark_text mark) (b ∷ []) r ∙ e in
    let next = further longer reached in
    record { more = b ∷ next.more; tail = next.tail; split = ap (λ l. b ∷ l) next.split; text = next.text ∙ ap (λ l. l ++ next.more) t ∙ append_assoc (mark_text mark) (b ∷ []) next.more; reached = next.reached; ended = next.ended }

pub longest_found : (mark : Mark) (rest : List ℕ) → Reached mark → Longest mark rest (longest_mark mark rest)
longest_found mark [] r = record { more = []; tail = []; split = refl; text = sym (append-nil (mark_text mark)); reached = r; ended = tt }
longest_found mark (b ∷ rest) r = longest_step mark b rest (longer_mark mark b) refl r (λ longer. longest_found longer rest)

pub record MarkIs (text : List ℕ) (mark : Mark) : Type 0 where
  pub tail : List ℕ
  pub split : text ≡ mark_text mark ++ tail
  pub reached : Reached mark
  pub ended : Ended mark tail

first_reached : (b : ℕ) (mark : Mark) → first_mark b ≡ Some mark → Reached mark
first_reached b mark h = ap walk (first_text mark b h) ∙ h

pub mark_found : (text : List ℕ) (mark : Mark) → mark_at text ≡ Some mark → MarkIs text mark
mark_found [] mark h = absurd (cc)
mark_found (b ∷ text) mark h = by_first (first_mark b) refl h
  where
    by_first : (o : Option Mark) → first_mark b ≡ o → mark_from o text ≡ Some mark → MarkIs (b ∷ text) mark
    by_first None e g = absurd (cc)
    by_first (Some one) e g =
        let longest = longest_found one text (first_reached b one e) in
        let same : longest_mark one text ≡ mark = same_mark (longest_mark one text) mark g in
        let whole : b ∷ text ≡ mark_text (longest_mark one text) ++ longest.tail =
        ap (λ l. b ∷ l) longest.split ∙ sym (ap (λ l. (l ++ longest.more) ++ longest.tail) (first_text one b e)) ∙ sym (ap (λ l. l ++ longest.tail) longest.text) in
        subst (MarkIs (b ∷ text)) same (record { tail = longest.tail; split = whole; reached = longest.reached; ended = longest.ended })

pub no_mark : (b : ℕ) (text : List ℕ) (mark : Mark) (more : List ℕ) → mark_at (b ∷ text) ≡ None → (b ≡ 95 → ⊥) → mark_text mark ≡ b ∷ more → ⊥
no_mark b text mark more h other t = by_first (first_mark b) refl h
  where
    by_first : (o : Option Mark) → first_mark b ≡ o → mark_from o text ≡ None → ⊥
    by_first (Some one) e g = absurd (cc)
    by_first None e g = is_underscore mark
        (λ low. let same : 95 ∷ [] ≡ b ∷ more = sym (underscore_text mark low) ∙ t in let first : 95 ≡ b = cc in other (sym first))
        (λ not_low.
        let found : walk (b ∷ more) ≡ Some (plain mark) = ap walk (sym t) ∙ walk_text mark not_low in
        let none : walk (b ∷ more) ≡ None = ap (λ o. walk_on o more) e ∙ walk_none more in
        absurd (cc))

only_step : (mark longest : Mark) (b : ℕ) (more rest : List ℕ) (o : Option Mark) → longer_mark mark b ≡ o → walk_on (longer_mark mark b) more ≡ Some longest →
    ((longer : Mark) → walk_on (Some longer) more ≡ Some longest → longest_mark longer (more ++ rest) ≡ longest) →
    longest_of mark (λ longer. longest_mark longer (more ++ rest)) (longer_mark mark b) ≡ longest
only_step mark longest b more rest None e h further = let none : walk_on (longer_mark mark b) more ≡ None = ap (λ o. walk_on o more) e ∙ walk_none more in absurd (cc)
only_step mark longest b more rest (Some longer) e h further = ap (longest_of mark (λ x. longest_mark x (more ++ rest))) e ∙ further longer (sym (ap (λ o. walk_on o more) e) ∙ h)

longest_only : (mark longest : Mark) (more rest : List ℕ) → walk_on (Some mark) more ≡ Some longest → Ended longest rest → longest_mark mark (more ++ rest) ≡ longest
longest_only mark longest [] [] h ended = same_mark mark longest h
longest_only mark longest [] (b ∷ rest) h ended =
    let same = same_mark mark longest h in
    ap (longest_of mark (λ longer. longest_mark longer rest)) (ap (λ x. longer_mark x b) same ∙ ended) ∙ same
longest_only mark longest (b ∷ more) rest h ended = only_step mark longest b more rest (longer_mark mark b) refl h (λ longer g. longest_only longer longest more rest g ended)

only_at : (text rest : List ℕ) (mark : Mark) → walk text ≡ Some mark → Ended mark rest → mark_at (text ++ rest) ≡ Some mark
only_at [] rest mark h ended = absurd (cc)
only_at (b ∷ text) rest mark h ended = by_first (first_mark b) refl
  where
    by_first : (o : Option Mark) → first_mark b ≡ o → mark_from (first_mark b) (text ++ rest) ≡ Some mark
    by_first None e = let none : walk (b ∷ text) ≡ None = ap (λ o. walk_on o text) e ∙ walk_none text in absurd (cc)
    by_first (Some one) e = ap (λ o. mark_from o (text ++ rest)) e ∙ ap Some (longest_only one mark text rest (sym (ap (λ o. walk_on o text) e) ∙ h) ended)

-- the mark that stands in front of the rest is the one that is found
pub mark_only : (mark : Mark) (rest : List ℕ) → (IsUnderscore mark → ⊥) → IsLongestMark mark rest → mark_at (mark_text mark ++ rest) ≡ Some (plain mark)
mark_only mark rest other h = only_at (mark_text mark) rest (plain mark) (walk_text mark other) (ended_from_longest mark rest h)

pub context_only : (before : Before) (mark : Mark) (rest : List ℕ) → Fits before mark rest → in_context before (plain mark) rest ≡ mark
context_only before m.Less rest h = if_true (is_between_blanks before rest) m.Less m.AngleOpen h
context_only before m.AngleOpen rest h = if_false (is_between_blanks before rest) m.Less m.AngleOpen h
context_only before m.Greater rest h = if_true (is_between_blanks before rest) m.Greater m.AngleClose h
context_only before m.AngleClose rest h = if_false (is_between_blanks before rest) m.Greater m.AngleClose h
context_only before m.Concat rest h = if_false (is_tag before rest) m.Tag m.Concat h
context_only before m.Tag rest h = if_true (is_tag before rest) m.Tag m.Concat h
context_only before _ rest h = refl

-- a mark in its context
pub record InContext (before : Before) (mark : Mark) (rest : List ℕ) (found : Mark) : Type 0 where
  pub same_text : mark_text found ≡ mark_text mark
  pub fits : Fits before found rest

chosen_fits : (before : Before) (mark one other : Mark) (rest : List ℕ) (b : Bool) → mark_text one ≡ mark_text mark → mark_text other ≡ mark_text mark → (b ≡ true → Fits before one rest) → (b ≡ false → Fits before other rest) →
    InContext before mark rest (if b then one else other)
chosen_fits before mark one other rest true t u f g = record { same_text = t; fits = f refl }
chosen_fits before mark one other rest false t u f g = record { same_text = u; fits = g refl }

pub context_found : (before : Before) (mark : Mark) (rest : List ℕ) → Reached mark → InContext before mark rest (in_context before mark rest)
context_found before m.Less rest r = chosen_fits before m.Less m.Less m.AngleOpen rest (is_between_blanks before rest) refl refl (λ h. h) (λ h. h)
context_found before m.Greater rest r = chosen_fits before m.Greater m.Greater m.AngleClose rest (is_between_blanks before rest) refl refl (λ h. h) (λ h. h)
context_found before m.Concat rest r = chosen_fits before m.Concat m.Tag m.Concat rest (is_tag before rest) refl refl (λ h. h) (λ h. h)
context_found before m.AngleOpen rest r = absurd (cc)
context_found before m.AngleClose rest r = absurd (cc)
context_found before m.Tag rest r = absurd (cc)
context_found before m.Underscore rest r = absurd (cc)
context_found before _ rest r = record { same_text = refl; fits = tt }

pub no_mark_found : (b : ℕ) (text : List ℕ) → ((mark : Mark) (more : List ℕ) → mark_text mark ≡ b ∷ more → ⊥) → mark_at (b ∷ text) ≡ None
no_mark_found b text none_ = by_first (first_mark b) refl
  where
    by_first : (o : Option Mark) → first_mark b ≡ o → mark_from (first_mark b) text ≡ None
    by_first None e = ap (λ o. mark_from o text) e
    by_first (Some mark) e = absurd (none_ mark [] (first_text mark b e))

pub mark_within : (text : List ℕ) (first longest : Mark) → 1 ≤ length text → first_mark (get_or text 0 0) ≡ Some first → longest ≡ longest_mark first (take (length text - 1) (drop 1 text)) → length (mark_text longest) ≤ length text
mark_within [] first longest some h e = absurd (omega arith)
mark_within (b ∷ text) first longest some h e =
    let all : longest ≡ longest_mark first text = e ∙ ap (longest_mark first) (slice_rest 1 (b ∷ text)) in
    let is = mark_found (b ∷ text) longest (ap (λ o. mark_from o text) h ∙ ap Some (sym all)) in
    let size : length (b ∷ text) ≡ length (mark_text longest) + length is.tail = ap length is.split ∙ length-append (mark_text longest) is.tail in
    omega arith

pub underscore_longest : (rest : List ℕ) → IsLongestMark m.Underscore rest
underscore_longest rest longer more tail e h = is_underscore longer
    (λ low. let same : 95 ∷ [] ≡ 95 ∷ more = sym (underscore_text longer low) ∙ h in let end : [] ≡ more = cc in sym end)
    (λ other. let found : walk (95 ∷ more) ≡ Some (plain longer) = ap walk (sym h) ∙ walk_text longer other in let none : walk (95 ∷ more) ≡ None = walk_none more in absurd (cc))

pub mark_some : (mark : Mark) → 0 < length (mark_text mark)
mark_some m.Plus = lit< tt
mark_some m.Minus = lit< tt
mark_some m.Star = lit< tt
mark_some m.Slash = lit< tt
mark_some m.Percent = lit< tt
mark_some m.Power = lit< tt
mark_some m.PlusWrap = lit< tt
mark_some m.MinusWrap = lit< tt
mark_some m.StarWrap = lit< tt
mark_some m.Concat = lit< tt
mark_some m.Equal = lit< tt
mark_some m.NotEqual = lit< tt
mark_some m.Less = lit< tt
mark_some m.Greater = lit< tt
mark_some m.LessEqual = lit< tt
mark_some m.GreaterEqual = lit< tt
mark_some m.Assign = lit< tt
mark_some m.PlusAssign = lit< tt
mark_some m.MinusAssign = lit< tt
mark_some m.StarAssign = lit< tt
mark_some m.SlashAssign = lit< tt
mark_some m.PercentAssign = lit< tt
mark_some m.PowerAssign = lit< tt
mark_some m.ConcatAssign = lit< tt
mark_some m.PlusWrapAssign = lit< tt
mark_some m.MinusWrapAssign = lit< tt
mark_some m.StarWrapAssign = lit< tt
mark_some m.EqualSign = lit< tt
mark_some m.Colon = lit< tt
mark_some m.Semicolon = lit< tt
mark_some m.Comma = lit< tt
mark_some m.Dot = lit< tt
mark_some m.Question = lit< tt
mark_some m.Bang = lit< tt
mark_some m.ParenOpen = lit< tt
mark_some m.ParenClose = lit< tt
mark_some m.BracketOpen = lit< tt
mark_some m.BracketClose = lit< tt
mark_some m.BraceOpen = lit< tt
mark_some m.BraceClose = lit< tt
mark_some m.Arrow = lit< tt
mark_some m.Subtype = lit< tt
mark_some m.Underscore = lit< tt
mark_some m.AngleOpen = lit< tt
mark_some m.AngleClose = lit< tt
mark_some m.Tag = lit< tt
