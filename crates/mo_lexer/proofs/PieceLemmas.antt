-- The pieces that the code finds stand where they are.
use Rattle.std.proofs.Common.{◌≡◌, ℕ, suc, ◌+◌, ◌-◌, ◌<◌, ◌≤◌, ◌^◌, true, false, List, [], ◌∷◌, ◌++◌, length, take, drop, get_or, Option, Some, None, refl, sym, ap, ◌∙◌, subst, arith, inl, inr, ⊎_elim, take-append-drop, length-append, zero}
use Rattle.std.specs.Prelude.{◌⊎◌, ◌==◌, ◌&&◌, ◌||◌, not}
use Rattle.std.specs.List.{prefix_len, list_all}
use Rattle.std.specs.Str.{bytes_eq}
use Rattle.std.specs.Option.{is_none, SomeIff}
use Rattle.std.proofs.lemmas.Bool.{eqb-true}
use Rattle.std.proofs.lemmas.List.{length-take-le}
use Rattle.std.proofs.lemmas.List.Sums.{prefix_len-le-length}
use Rattle.mo_syntax.specs.Characters.{is_blank, is_name_start, is_name_byte, is_digit, begins, value_of}
use Rattle.mo_syntax.specs.Words.{mark_text, word_of}
use Rattle.mo_syntax.specs.Tokens.{before_of}
use Rattle.mo_syntax.specs.Lexed.{is_name, IsToken, IsComment, IsCharacter, IsLongestMark, begins_comment, begins_hexadecimal, is_inside_line, blank, comment, token}
use Rattle.mo_syntax.specs.declared.word.Word.{Word}
use Rattle.mo_syntax.specs.declared.mark.Mark.{Mark}
use Rattle.mo_syntax.specs.declared.mark.Mark.TheVariants as m
use Rattle.mo_syntax.specs.declared.token.TokenKind.{TokenKind}
use Rattle.mo_syntax.specs.declared.token.TokenKind.TheVariants as t
use Rattle.mo_syntax.specs.declared.before.Before.{Before}
use Rattle.mo_syntax.specs.declared.before.Before.TheVariants as beside
use Rattle.mo_lexer.specs.declared.number.Number.{Number}
use Rattle.mo_lexer.specs.declared.piece.Found.{Found}
use Rattle.mo_lexer.specs.declared.literal.CharacterFound.{CharacterFound}
use Rattle.mo_lexer.specs.declared.literal.TextFound.{TextFound}
use Rattle.mo_lexer.specs.Found.{PieceIs, CharacterIs, TextIs}
use Rattle.mo_lexer.specs.Faults.{BeginsNothing, BeginsNoOther}
use Rattle.mo_lexer.specs.Marks.{mark_at, in_context}
use Rattle.mo_lexer.specs.Numbers.{NumberIs, IsNumber}
use Rattle.mo_lexer.proofs.NumberLemmas.{NumberAt, decimal_found, hexadecimal_found}
use Rattle.mo_lexer.specs.Reading.{block_len, digits_len}
use Rattle.mo_lexer.proofs.Tools.{and_true, and_of, or_true, or_left, tested, slice_rest, if_true, take_two, drop_two}
use Rattle.mo_lexer.proofs.Names.{run_found}
use Rattle.mo_lexer.proofs.OneOutcome.{identifier, text_kind}
use Rattle.mo_lexer.proofs.CommentLemmas.{block_found}
use Rattle.mo_lexer.proofs.EscapeLemmas.{take_seam, drop_seam}
use Rattle.mo_lexer.proofs.MarkLemmas.{reached_some, longest_from_ended, mark_found, no_mark, context_found, underscore_longest}

abbrev pub token_found : TokenKind → ℕ → Found
token_found kind len = record { kind = Some kind; before = before_of kind; len = len }

pub token_piece : (before : Before) (text : List ℕ) (kind : TokenKind) (len : ℕ) → len ≤ length text → 0 < len → IsToken before kind (take len text) (drop len text) → PieceIs before text (token_found kind len)
token_piece before text kind len within some is = record {
  piece = token kind (take len text);
  within = within;
  some = some;
  text_is = refl;
  stands = is;
  before_is = refl;
  kind_is = refl;
}

-- ---- blanks

pub blank_piece : (before : Before) (text : List ℕ) → 0 < length text → is_blank (get_or text 0 0) ≡ true → PieceIs before text (record { kind = None; before = beside.Blank; len = 1 })
blank_piece before [] some h = absurd (omega arith)
blank_piece before (b ∷ text) some h = record {
  piece = blank b;
  within = omega arith;
  some = omega arith;
  text_is = refl;
  stands = h;
  before_is = refl;
  kind_is = refl;
}

-- ---- names

abbrev pub NameKind : List ℕ → TokenKind → Type 0
NameKind name kind =
    ((word : Word) × (word_of name ≡ Some word) × (kind ≡ t.Reserved word))
    ⊎ ((name ≡ 95 ∷ []) × (kind ≡ t.Mark m.Underscore))
    ⊎ ((bytes_eq name (95 ∷ []) ≡ false) × (word_of name ≡ None) × (kind ≡ identifier name))

starts_name : (text : List ℕ) → begins is_name_start text ≡ true → 0 < prefix_len is_name_byte text
starts_name [] h = absurd (cc)
starts_name (b ∷ text) h = let e = if_true (is_name_byte b) (1 + prefix_len is_name_byte text) 0 (or_left (is_name_start b) _ h) in omega arith

starts_cut : (n : ℕ) (text : List ℕ) → 0 < n → begins is_name_start text ≡ true → begins is_name_start (take n text) ≡ true
starts_cut n [] some h = absurd (cc)
starts_cut zero (b ∷ text) some h = absurd (omega arith)
starts_cut (suc n) (b ∷ text) some h = h

name_token : (before : Before) (name rest : List ℕ) (kind : TokenKind) → is_name name ≡ true → begins is_name_byte rest ≡ false → begins_comment (name ++ rest) ≡ false → NameKind name kind → IsToken before kind name rest
name_token before name rest kind is ends plain (inl (word, found, e)) = subst (λ x. IsToken before x name rest) (sym e) (found, is, ends)
name_token before name rest kind is ends plain (inr (inl (low, e))) = subst (λ x. IsToken before x name rest) (sym e) (low, underscore_longest rest, plain, ends)
name_token before name rest kind is ends plain (inr (inr (other, none, e))) =
    subst (λ x. IsToken before x name rest) (sym e) (refl, and_of (is_name name) (not (bytes_eq name (95 ∷ [])) && is_none (word_of name)) is (and_of (not (bytes_eq name (95 ∷ []))) (is_none (word_of name)) (ap not other) (ap is_none none)), ends)

no_comment : (text : List ℕ) → begins is_name_start text ≡ true → begins_comment text ≡ false
no_comment [] h = refl
no_comment (b ∷ []) h = refl
no_comment (b ∷ c ∷ text) h = ap (λ x. x && (c == 47 || c == 42)) (tested (b == 47) (λ slash. let e = ap is_name_start (sym (eqb-true b 47 slash)) ∙ h in absurd (cc)) (λ other. other))

pub name_piece : (before : Before) (text : List ℕ) (kind : TokenKind) (len : ℕ) → len ≡ prefix_len is_name_byte text → begins is_name_start text ≡ true → NameKind (take len text) kind → PieceIs before text (token_found kind len)
name_piece before text kind len e h is =
    let some : 0 < len = let s = starts_name text h in omega arith in
    let within : len ≤ length text = let w = prefix_len-le-length is_name_byte text in omega arith in
    let run = run_found is_name_byte text in
    let all : list_all is_name_byte (take len text) ≡ true = ap (λ k. list_all is_name_byte (take k text)) e ∙ run.passes in
    let ends : begins is_name_byte (drop len text) ≡ false = ap (λ k. begins is_name_byte (drop k text)) e ∙ run.stops in
    token_piece before text kind len within some
    (name_token before (take len text) (drop len text) kind (and_of (begins is_name_start (take len text)) (list_all is_name_byte (take len text)) (starts_cut len text some h) all) ends
    (ap begins_comment (take-append-drop len text) ∙ no_comment text h) is)

-- ---- comments

abbrev pub comment_found : ℕ → Found
comment_found len = record { kind = None; before = beside.Other; len = len }

pub comment_piece : (before : Before) (text : List ℕ) (len : ℕ) → len ≤ length text → 0 < len → IsComment (take len text) (drop len text) → PieceIs before text (comment_found len)
comment_piece before text len within some is = record {
  piece = comment (take len text);
  within = within;
  some = some;
  text_is = refl;
  stands = is;
  before_is = refl;
  kind_is = refl;
}

-- a comment's two first bytes
pub record Opens (text : List ℕ) (b c : ℕ) : Type 0 where
  pub whole : text ≡ b ∷ c ∷ drop 2 text
  pub some : 2 ≤ length text

pub opens_comment : (text : List ℕ) → begins_comment text ≡ true → Opens text 47 (get_or text 1 0) × ((get_or text 1 0 ≡ 47) ⊎ (get_or text 1 0 ≡ 42))
opens_comment [] h = absurd (cc)
opens_comment (b ∷ []) h = absurd (cc)
opens_comment (b ∷ c ∷ text) h =
    let both = and_true (b == 47) (c == 47 || c == 42) h in (
      record { whole = ap (λ x. x ∷ c ∷ text) (eqb-true b 47 both.0); some = omega arith },
      ⊎_elim (λ line. inl (eqb-true c 47 line)) (λ block. inr (eqb-true c 42 block)) (or_true (c == 47) (c == 42) both.1),
    )

pub line_piece : (before : Before) (text : List ℕ) (n : ℕ) → Opens text 47 47 → n ≡ prefix_len is_inside_line (drop 2 text) → PieceIs before text (comment_found (2 + n))
line_piece before text n o e =
    let body : List ℕ = drop 2 text in
    let run = run_found is_inside_line body in
    let fits : n ≤ length body = let w = prefix_len-le-length is_inside_line body in omega arith in
    let long = ap length o.whole in
    let cut : take (2 + n) text ≡ 47 ∷ 47 ∷ take n body = ap (take (2 + n)) o.whole ∙ take_two n 47 47 body in
    let rest : drop (2 + n) text ≡ drop n body = ap (drop (2 + n)) o.whole ∙ drop_two n 47 47 body in
    comment_piece before text (2 + n) (omega arith) (omega arith)
    (inl (take n body, cut, ap (λ k. list_all is_inside_line (take k body)) e ∙ run.passes, ap (begins is_inside_line) rest ∙ ap (λ k. begins is_inside_line (drop k body)) e ∙ run.stops))

pub block_piece : (before : Before) (text : List ℕ) (n : ℕ) → Opens text 47 42 → n ≤ length (drop 2 text) → block_len 1 (drop 2 text) ≡ Some n → PieceIs before text (comment_found (2 + n))
block_piece before text n o fits e =
    let body : List ℕ = drop 2 text in
    let long = ap length o.whole in
    let cut : take (2 + n) text ≡ 47 ∷ 42 ∷ take n body = ap (take (2 + n)) o.whole ∙ take_two n 47 42 body in
    comment_piece before text (2 + n) (omega arith) (omega arith) (inr (take n body, cut, block_found 1 n body (omega arith) e))

-- ---- marks

pub mark_piece : (before : Before) (text : List ℕ) (plain : Mark) (len : ℕ) → mark_at text ≡ Some plain → len ≡ length (mark_text plain) → begins_comment text ≡ false → PieceIs before text (token_found (t.Mark (in_context before plain (drop len text))) len)
mark_piece before text plain len h e no_slash =
    let is = mark_found text plain h in
    let cut : take len text ≡ mark_text plain = take_seam (mark_text plain) is.tail text len is.split e in
    let rest : drop len text ≡ is.tail = drop_seam (mark_text plain) is.tail text len is.split e in
    let some : 0 < len = let s = reached_some plain is.reached in omega arith in
    let long : length text ≡ length (mark_text plain) + length is.tail = ap length is.split ∙ length-append (mark_text plain) is.tail in
    let context = context_found before plain (drop len text) is.reached in
    let longest : IsLongestMark plain (drop len text) = subst (IsLongestMark plain) (sym rest) (longest_from_ended plain is.tail is.reached is.ended) in
    let found : Mark = in_context before plain (drop len text) in
    let longest_found : IsLongestMark found (drop len text) = λ longer more tail split same. longest longer more tail split (same ∙ ap (λ l. l ++ more) context.same_text) in
    token_piece before text (t.Mark found) len (omega arith) some
    (cut ∙ sym context.same_text, longest_found, ap begins_comment (take-append-drop len text) ∙ no_slash, context.fits)

pub nothing_begins : (b : ℕ) (text : List ℕ) → mark_at (b ∷ text) ≡ None → is_blank b ≡ false → is_name_start b ≡ false → is_digit 10 b ≡ false → (b ≡ 39 → ⊥) → (b ≡ 34 → ⊥) → BeginsNothing b
nothing_begins b text h blank_ name number quote text_ = record {
  no_other = record { no_blank = blank_; no_name = name; no_number = number; no_character = quote; no_text = text_ };
  no_mark = λ mark more same. no_mark b text mark more h (λ low. let e = ap is_name_start (sym low) ∙ name in absurd (cc)) same;
}

pub line_opens : (text : List ℕ) → begins_comment text ≡ true → get_or text 1 0 ≡ 47 → Opens text 47 47
line_opens text h e = subst (Opens text 47) e (opens_comment text h).0

pub block_opens : (text : List ℕ) → begins_comment text ≡ true → (get_or text 1 0 ≡ 47 → ⊥) → Opens text 47 42
block_opens text h other = let o = opens_comment text h in ⊎_elim (λ line. absurd (other line)) (λ block. subst (Opens text 47) block o.0) o.1

-- ---- numbers

pub number_piece : (before : Before) (text : List ℕ) (number : Number) (value : ℕ) → NumberIs text number → number.value ≡ Some value → PieceIs before text (token_found (t.Number value) number.len)
number_piece before text number value is e =
    let iff = subst (λ o. SomeIff o (is.n < 2 ^ 64) is.n) e is.value in
    token_piece before text (t.Number value) number.len is.within is.some (subst (λ v. IsNumber (take number.len text) v (drop number.len text)) (sym iff.1) is.is_number, subst (λ v. v < 2 ^ 64) (sym iff.1) iff.0)

pub decimal_number : (text : List ℕ) (value : Option ℕ) (len : ℕ) → begins (is_digit 10) text ≡ true → begins_hexadecimal text ≡ false → len ≡ digits_len 10 text →
    SomeIff value (value_of 10 (take len text) < 2 ^ 64) (value_of 10 (take len text)) → NumberIs text (record { value = value; len = len })
decimal_number text value len h g e v =
    let at = subst (λ k. NumberAt text k (value_of 10 (take k text))) (sym e) (decimal_found text h g) in
    record { n = value_of 10 (take len text); within = at.within; some = at.some; is_number = at.is_number; value = v }

pub hexadecimal_number : (text : List ℕ) (value : Option ℕ) (len : ℕ) → begins_hexadecimal text ≡ true → len ≡ digits_len 16 (take (length text - 2) (drop 2 text)) →
    SomeIff value (value_of 16 (take (2 + len - 2) (drop 2 text)) < 2 ^ 64) (value_of 16 (take (2 + len - 2) (drop 2 text))) → NumberIs text (record { value = value; len = 2 + len })
hexadecimal_number text value len g e v =
    let n : len ≡ digits_len 16 (drop 2 text) = e ∙ ap (digits_len 16) (slice_rest 2 text) in
    let at = subst (λ k. NumberAt text (2 + k) (value_of 16 (take k (drop 2 text)))) (sym n) (hexadecimal_found text g) in
    let less : 2 + len - 2 ≡ len = omega arith in
    record {
      n = value_of 16 (take len (drop 2 text));
      within = at.within;
      some = at.some;
      is_number = at.is_number;
      value = subst (λ k. SomeIff value (value_of 16 (take k (drop 2 text)) < 2 ^ 64) (value_of 16 (take k (drop 2 text)))) less v;
    }

pub nothing_found : (text : List ℕ) → mark_at text ≡ None → 0 < length text → BeginsNoOther (get_or text 0 0) → (b : ℕ) × (rest : List ℕ) × (text ≡ b ∷ rest) × BeginsNothing b
nothing_found [] h some no_other = absurd (omega arith)
nothing_found (b ∷ text) h some no_other = (b, text, refl, nothing_begins b text h no_other.no_blank no_other.no_name no_other.no_number no_other.no_character no_other.no_text)

-- ---- characters and texts

character_some : (text : List ℕ) (c : ℕ) → IsCharacter text c → 0 < length text
character_some text c (inl h) = omega (arith, ap length h.0)
character_some text c (inr h) = omega (arith, ap length h.1)

pub character_piece : (before : Before) (text : List ℕ) (found : CharacterFound) → CharacterIs text found → PieceIs before text (token_found (t.Character found.value) found.len)
character_piece before text found is =
    let size = length-take-le found.len text is.within in
    let some = character_some (take found.len text) found.value is.is_character in
    token_piece before text (t.Character found.value) found.len is.within (omega arith) is.is_character

pub text_piece : (before : Before) (text : List ℕ) (found : TextFound) → TextIs text found → PieceIs before text (token_found (text_kind found.bytes) found.len)
text_piece before text found is =
    let size = length-take-le found.len text is.within in
    let some : 0 < length (take found.len text) = omega (arith, ap length is.is_text.1) in
    token_piece before text (text_kind found.bytes) found.len is.within (omega arith) (refl, is.is_text)
