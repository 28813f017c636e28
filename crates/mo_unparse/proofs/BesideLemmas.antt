-- What may stand directly beside a token.
use Rattle.std.proofs.Common.{◌≡◌, ℕ, zero, suc, Bool, true, false, List, [], ◌∷◌, ◌++◌, take, Option, Some, None, refl, sym, ap, ◌∙◌, subst, inl, inr}
use Rattle.std.specs.Prelude.{◌⊎◌, ◌==◌, ◌&&◌, not, if◌then◌else◌}
use Rattle.std.specs.List.{take_while, prefix_len, list_all}
use Rattle.std.specs.Str.{bytes_eq}
use Rattle.std.specs.Option.{is_none}
use Rattle.std.proofs.Math.Seq.{take-append_seam}
use Rattle.std.proofs.lemmas.Bool.{eqb-true}
use Rattle.mo_syntax.specs.Characters.{is_blank, is_name_start, is_name_byte, begins}
use Rattle.mo_syntax.specs.Words.{mark_text, word_of}
use Rattle.mo_syntax.specs.Lexed.{is_name, is_identifier, begins_identifier, begins_comment, is_between_blanks, is_tag, Fits, IsLongestMark}
use Rattle.mo_syntax.specs.declared.mark.Mark.{Mark}
use Rattle.mo_syntax.specs.declared.mark.Mark.TheVariants as m
use Rattle.mo_syntax.specs.declared.before.Before.{Before}
use Rattle.mo_syntax.specs.declared.before.Before.TheVariants as beside
use Rattle.mo_syntax.specs.declared.token.TokenKind.{TokenKind}
use Rattle.mo_syntax.specs.declared.token.TokenKind.TheVariants as t
use Rattle.mo_lexer.specs.Marks.{longer_mark}
use Rattle.mo_lexer.proofs.Names.{run_only}
use Rattle.mo_lexer.proofs.MarkLemmas.{plain, plain_text, walk, walk_text, IsUnderscore, Ended, longest_from_ended, underscore_longest}
use Rattle.mo_lexer.proofs.Tools.{and_true, tested, true_is_not_false}
use Rattle.mo_unparse.specs.declared.last.Last.{Last}
use Rattle.mo_unparse.specs.declared.last.Last.TheVariants as last
use Rattle.mo_unparse.specs.Spelling.{last_of_mark, is_angle, is_angle_mark, IsSpelling}

abbrev pub StartsWith : ℕ → List ℕ → Type 0
StartsWith b text = (rest : List ℕ) × (text ≡ b ∷ rest)

abbrev pub StartsBlank : List ℕ → Type 0
StartsBlank text = StartsWith 32 text ⊎ StartsWith 10 text

-- what may be written directly behind a token
abbrev pub Follows : Last → List ℕ → Type 0
Follows last.Tag rest = begins_identifier rest ≡ true
Follows last.Operand rest = StartsBlank rest ⊎ StartsWith 60 rest ⊎ StartsWith 62 rest
Follows last.Other rest = StartsBlank rest

pub at_blank : (P : List ℕ → Type 0) (rest : List ℕ) → StartsBlank rest → ((r : List ℕ) → P (32 ∷ r)) → ((r : List ℕ) → P (10 ∷ r)) → P rest
at_blank P rest (inl (r, e)) space line = subst P (sym e) (space r)
at_blank P rest (inr (r, e)) space line = subst P (sym e) (line r)

pub at_operand : (P : List ℕ → Type 0) (rest : List ℕ) → Follows last.Operand rest → ((r : List ℕ) → P (32 ∷ r)) → ((r : List ℕ) → P (10 ∷ r)) → ((r : List ℕ) → P (60 ∷ r)) → ((r : List ℕ) → P (62 ∷ r)) → P rest
at_operand P rest (inl h) space line open_ close_ = at_blank P rest h space line
at_operand P rest (inr (inl (r, e))) space line open_ close_ = subst P (sym e) (open_ r)
at_operand P rest (inr (inr (r, e))) space line open_ close_ = subst P (sym e) (close_ r)

-- ---- marks

-- no longer mark and no comment begins at the mark
abbrev Stops : Mark → List ℕ → Type 0
Stops mark rest = (Ended (plain mark) rest) × (begins_comment (mark_text mark ++ rest) ≡ false)

begins_take : (p : ℕ → Bool) (n b : ℕ) (text : List ℕ) → begins p (take n (b ∷ text)) ≡ true → p b ≡ true
begins_take p zero b text h = absurd (cc)
begins_take p (suc n) b text h = h

-- an identifier begins with a letter or `_`
starts_name : (b : ℕ) (text : List ℕ) → begins_identifier (b ∷ text) ≡ true → is_name_start b ≡ true
starts_name b text h =
    let n : ℕ = prefix_len is_name_byte (b ∷ text) in
    let front : List ℕ = take n (b ∷ text) in
    let name = and_true (is_name front) (not (bytes_eq front (95 ∷ [])) && is_none (word_of front)) h in
    begins_take is_name_start n b text (and_true (begins is_name_start front) (list_all is_name_byte front) name.0).0

none_or : (t : Bool) (o : Option Mark) → o ≡ None → (if t then None else o) ≡ None
none_or true o h = refl
none_or false o h = h

no_concat : (b : ℕ) → (b == 61) ≡ false → longer_mark m.Concat b ≡ None
no_concat b h =
    ap (λ t. if t then Some m.ConcatAssign else (if b == 37 then None else (if b == 42 then None else (if b == 62 then None else (if b == 58 then None else None))))) h
    ∙ none_or (b == 37) _ (none_or (b == 42) _ (none_or (b == 62) _ (none_or (b == 58) None refl)))

tag_stops : (rest : List ℕ) → begins_identifier rest ≡ true → Stops m.Tag rest
tag_stops [] h = absurd (cc)
tag_stops (b ∷ rest) h =
    let is = starts_name b rest h in
    let other : (b == 61) ≡ false = tested (b == 61) (λ same. true_is_not_false is (ap is_name_start (eqb-true b 61 same))) (λ differs. differs) in
    (no_concat b other, refl)

stops : (mark : Mark) (rest : List ℕ) → Follows (last_of_mark mark) rest → Stops mark rest
stops m.ParenClose rest h = at_operand (Stops m.ParenClose) rest h (λ r. (refl, refl)) (λ r. (refl, refl)) (λ r. (refl, refl)) (λ r. (refl, refl))
stops m.BracketClose rest h = at_operand (Stops m.BracketClose) rest h (λ r. (refl, refl)) (λ r. (refl, refl)) (λ r. (refl, refl)) (λ r. (refl, refl))
stops m.BraceClose rest h = at_operand (Stops m.BraceClose) rest h (λ r. (refl, refl)) (λ r. (refl, refl)) (λ r. (refl, refl)) (λ r. (refl, refl))
stops m.AngleClose rest h = at_operand (Stops m.AngleClose) rest h (λ r. (refl, refl)) (λ r. (refl, refl)) (λ r. (refl, refl)) (λ r. (refl, refl))
stops m.Tag rest h = tag_stops rest h
stops mark rest h = at_blank (Stops mark) rest h (λ r. (refl, refl)) (λ r. (refl, refl))

reached_longest : (mark : Mark) (rest : List ℕ) → (IsUnderscore mark → ⊥) → Ended (plain mark) rest → IsLongestMark mark rest
reached_longest mark rest other ended longer more tail e text =
    longest_from_ended (plain mark) rest (ap walk (plain_text mark) ∙ walk_text mark other) ended longer more tail e (text ∙ ap (λ l. l ++ more) (sym (plain_text mark)))

longest : (mark : Mark) (rest : List ℕ) → Ended (plain mark) rest → IsLongestMark mark rest
longest m.Underscore rest h = underscore_longest rest
longest mark rest h = reached_longest mark rest (λ u. u) h

-- what may stand directly before a token
abbrev pub NotBlank : Before → Type 0
NotBlank beside.Blank = ⊥
NotBlank _ = Unit {0}

abbrev pub SuitsMark : Before → Mark → Type 0
SuitsMark before m.AngleOpen = NotBlank before
SuitsMark before m.AngleClose = NotBlank before
SuitsMark before _ = before ≡ beside.Blank

abbrev pub Suits : Before → TokenKind → Type 0
Suits before (t.Mark mark) = SuitsMark before mark
Suits before _ = Unit {0}

not_between : (before : Before) (rest : List ℕ) → NotBlank before → is_between_blanks before rest ≡ false
not_between beside.Blank rest h = absurd h
not_between beside.Operand rest h = refl
not_between beside.Other rest h = refl

between : (before : Before) (rest : List ℕ) → before ≡ beside.Blank → StartsBlank rest → is_between_blanks before rest ≡ true
between before rest s h = ap (λ x. is_between_blanks x rest) s ∙ at_blank (λ l. begins is_blank l ≡ true) rest h (λ r. refl) (λ r. refl)

fits : (before : Before) (mark : Mark) (rest : List ℕ) → SuitsMark before mark → Follows (last_of_mark mark) rest → Fits before mark rest
fits before m.Less rest s h = between before rest s h
fits before m.Greater rest s h = between before rest s h
fits before m.AngleOpen rest s h = not_between before rest s
fits before m.AngleClose rest s h = not_between before rest s
fits before m.Tag rest s h = ap (λ x. is_tag x rest) s ∙ h
fits before m.Concat rest s h = ap (λ x. is_tag x rest) s ∙ at_blank (λ l. begins_identifier l ≡ false) rest h (λ r. refl) (λ r. refl)
fits before m.Underscore rest s h = at_blank (λ l. begins is_name_byte l ≡ false) rest h (λ r. refl) (λ r. refl)
fits before _ rest s h = tt

pub record MarkStands (before : Before) (mark : Mark) (rest : List ℕ) : Type 0 where
  pub is_longest : IsLongestMark mark rest
  pub no_comment : begins_comment (mark_text mark ++ rest) ≡ false
  pub fitting : Fits before mark rest

pub mark_stands : (before : Before) (mark : Mark) (rest : List ℕ) → SuitsMark before mark → Follows (last_of_mark mark) rest → MarkStands before mark rest
mark_stands before mark rest s h =
    let stop = stops mark rest h in
    record { is_longest = longest mark rest stop.0; no_comment = stop.1; fitting = fits before mark rest s h }

-- ---- gaps

pub suits_blank : (kind : TokenKind) → is_angle kind ≡ false → Suits beside.Blank kind
suits_blank (t.Mark mark) h = by_mark mark h
  where
    by_mark : (mark : Mark) → is_angle_mark mark ≡ false → SuitsMark beside.Blank mark
    by_mark m.AngleOpen h = absurd (cc)
    by_mark m.AngleClose h = absurd (cc)
    by_mark _ h = refl
suits_blank _ h = tt

pub suits_other : (before : Before) (kind : TokenKind) → NotBlank before → is_angle kind ≡ true → Suits before kind
suits_other before (t.Mark mark) s h = by_mark mark h
  where
    by_mark : (mark : Mark) → is_angle_mark mark ≡ true → SuitsMark before mark
    by_mark m.AngleOpen h = s
    by_mark m.AngleClose h = s
    by_mark _ h = absurd (cc)
suits_other before _ s h = tt

-- the text of a bracket of types
pub angle_text : (kind : TokenKind) (text rest : List ℕ) → is_angle kind ≡ true → IsSpelling kind text → Follows last.Operand (text ++ rest)
angle_text (t.Mark mark) text rest h e = by_mark mark h e
  where
    by_mark : (mark : Mark) → is_angle_mark mark ≡ true → text ≡ mark_text mark → Follows last.Operand (text ++ rest)
    by_mark m.AngleOpen h e = inr (inl (rest, ap (λ l. l ++ rest) e))
    by_mark m.AngleClose h e = inr (inr (rest, ap (λ l. l ++ rest) e))
    by_mark _ h e = absurd (cc)
angle_text _ text rest h e = absurd (cc)

-- a name in front of what may stand behind it
pub name_ends : (rest : List ℕ) → Follows last.Operand rest → begins is_name_byte rest ≡ false
name_ends rest h = at_operand (λ l. begins is_name_byte l ≡ false) rest h (λ r. refl) (λ r. refl) (λ r. refl) (λ r. refl)

pub name_leads : (name rest : List ℕ) → is_identifier name ≡ true → Follows last.Operand rest → begins_identifier (name ++ rest) ≡ true
name_leads name rest is h =
    let both = and_true (is_name name) (not (bytes_eq name (95 ∷ [])) && is_none (word_of name)) is in
    let bytes = and_true (begins is_name_start name) (list_all is_name_byte name) both.0 in
    let len = run_only is_name_byte name rest (record { passes = bytes.1; stops = name_ends rest h }) in
    let cut : take_while is_name_byte (name ++ rest) ≡ name = ap (λ n. take n (name ++ rest)) len ∙ take-append_seam name rest in
    ap is_identifier cut ∙ is
