-- A token's text is the token, where it is written.
use Rattle.std.proofs.Common.{◌≡◌, ℕ, ◌<◌, Bool, true, false, List, [], ◌∷◌, ◌++◌, refl, sym, ap, ◌∙◌, subst, arith, inl, inr, append_assoc}
use Rattle.std.specs.Prelude.{◌==◌, ◌&&◌, not}
use Rattle.std.specs.List.{list_all}
use Rattle.std.specs.Char.{digit_value, IsScalar}
use Rattle.std.specs.Str.{bytes_eq}
use Rattle.std.specs.Option.{is_none}
use Rattle.std.proofs.lemmas.Bool.{eqb-true, ltb-true}
use Rattle.mo_syntax.specs.Characters.{is_digit, begins, goes_on, is_name_byte, is_name_start}
use Rattle.mo_syntax.specs.Words.{word_text, word_of, mark_text}
use Rattle.mo_syntax.specs.Tokens.{plain, nowhere}
use Rattle.mo_syntax.specs.Lexed.{is_name, is_identifier, begins_hexadecimal, IsToken, IsCharacter, begins_comment, IsDecimal}
use Rattle.mo_syntax.specs.declared.word.Word.{Word}
use Rattle.mo_syntax.specs.declared.word.Word.TheVariants as w
use Rattle.mo_syntax.specs.declared.mark.Mark.{Mark}
use Rattle.mo_syntax.specs.declared.mark.Mark.TheVariants as m
use Rattle.mo_syntax.specs.declared.before.Before.{Before}
use Rattle.mo_syntax.specs.declared.token.TokenKind.{TokenKind}
use Rattle.mo_syntax.specs.declared.token.TokenKind.TheVariants as t
use Rattle.mo_lexer.proofs.Tools.{and_true, tested}
use Rattle.mo_unparse.specs.declared.last.Last.TheVariants as last
use Rattle.mo_unparse.specs.Spelling.{Numeral, CharacterText, IsSpelling, last_of, last_of_word}
use Rattle.mo_unparse.specs.Writable.{IsOfLanguage}
use Rattle.mo_unparse.proofs.ByteLemmas.{AreLow, low_append, low_from, name_byte_low}
use Rattle.mo_unparse.proofs.NumeralLemmas.{is_numeral_text, numeral_low}
use Rattle.mo_unparse.proofs.TextLemmas.{text_is, text_low}
use Rattle.mo_unparse.proofs.WordLemmas.{word_is, word_is_name}
use Rattle.mo_unparse.proofs.BesideLemmas.{Follows, Suits, at_operand, mark_stands, name_ends}

word_ends : (word : Word) (rest : List ℕ) → Follows (last_of_word word) rest → begins is_name_byte rest ≡ false
word_ends w.True rest h = name_ends rest h
word_ends w.False rest h = name_ends rest h
word_ends w.Null rest h = name_ends rest h
word_ends _ rest h = name_ends rest (inl h)

-- ---- numbers

no_x : (b c : ℕ) (rest : List ℕ) → (c == 120) ≡ false → begins_hexadecimal (b ∷ c ∷ rest) ≡ false
no_x b c rest h = ap (λ x. (b == 48 && x) && begins (is_digit 16) rest) h ∙ never (b == 48) (begins (is_digit 16) rest)
  where
    never : (p q : Bool) → ((p && false) && q) ≡ false
    never true q = refl
    never false q = refl

decimal_x : (c : ℕ) → is_digit 10 c ≡ true → (c == 120) ≡ false
decimal_x c h = tested (c == 120)
    (λ same. let d : digit_value c < 10 = ltb-true (digit_value c) 10 h in let e : digit_value c ≡ 33 = ap digit_value (eqb-true c 120 same) in absurd (omega arith))
    (λ differs. differs)

no_hexadecimal : (text : List ℕ) (b : ℕ) (rest : List ℕ) → begins (is_digit 10) text ≡ true → list_all (is_digit 10) text ≡ true → (b == 120) ≡ false → begins_hexadecimal (text ++ b ∷ rest) ≡ false
no_hexadecimal [] b rest some digits h = absurd (cc)
no_hexadecimal (x ∷ []) b rest some digits h = no_x x b rest h
no_hexadecimal (x ∷ y ∷ text) b rest some digits h =
    let all = and_true (is_digit 10 x) (list_all (is_digit 10) (y ∷ text)) digits in
    no_x x y (text ++ b ∷ rest) (decimal_x y (and_true (is_digit 10 y) (list_all (is_digit 10) text) all.1).0)

number_ends : (rest : List ℕ) → Follows last.Operand rest → goes_on 10 rest ≡ false
number_ends rest h = at_operand (λ l. goes_on 10 l ≡ false) rest h (λ r. refl) (λ r. refl) (λ r. refl) (λ r. refl)

plain_number : (text rest : List ℕ) → begins (is_digit 10) text ≡ true → list_all (is_digit 10) text ≡ true → Follows last.Operand rest → begins_hexadecimal (text ++ rest) ≡ false
plain_number text rest some digits h =
    let no : (b : ℕ) → (b == 120) ≡ false → (r : List ℕ) → begins_hexadecimal (text ++ b ∷ r) ≡ false = λ b e r. no_hexadecimal text b r some digits e in
    at_operand (λ l. begins_hexadecimal (text ++ l) ≡ false) rest h (no 32 refl) (no 10 refl) (no 60 refl) (no 62 refl)

decimal : (n : ℕ) (text rest : List ℕ) → Numeral 10 n text → Follows last.Operand rest → IsDecimal text n rest
decimal n text rest is h = (is_numeral_text 10 n text is, is.value_is, number_ends rest h, plain_number text rest is.some is.digits h)

-- ---- characters

character_is : (c : ℕ) (text : List ℕ) → IsScalar c → CharacterText c text → IsCharacter text c
character_is c text scalar is =
    let frame : text ≡ 39 ∷ 92 ∷ (117 ∷ 123 ∷ is.digits ++ 125 ∷ []) ++ 39 ∷ [] = is.whole ∙ ap (λ l. 39 ∷ 92 ∷ 117 ∷ 123 ∷ l) (sym (append_assoc is.digits (125 ∷ []) (39 ∷ []))) in
    inr (117 ∷ 123 ∷ is.digits ++ 125 ∷ [], frame, inr (is.digits, refl, is.numeral.some, is.numeral.digits, is.numeral.value_is, scalar))

character_low : (c : ℕ) (text : List ℕ) → CharacterText c text → AreLow text
character_low c text is =
    let digits = numeral_low 16 c is.digits (omega arith) is.numeral in
    subst AreLow (sym is.whole) (low_append (39 ∷ 92 ∷ 117 ∷ 123 ∷ is.digits) (125 ∷ 39 ∷ []) (low_append (39 ∷ 92 ∷ 117 ∷ 123 ∷ []) is.digits refl digits) refl)

-- ---- all kinds

pub token_stands : (before : Before) (kind : TokenKind) (text rest : List ℕ) → IsOfLanguage kind → IsSpelling kind text → Suits before kind → Follows (last_of kind) rest → IsToken before (plain kind) text rest
token_stands before (t.Identifier name) text rest is e s h = (ap (λ l. record { bytes = l; place = nowhere }) (sym e), ap is_identifier e ∙ is, name_ends rest h)
token_stands before (t.Reserved word) text rest is e s h = (ap word_of e ∙ word_is word, ap is_name e ∙ word_is_name word, word_ends word rest h)
token_stands before (t.Number n) text rest is e s h = (inl (decimal n text rest e.numeral h), e.fits)
token_stands before (t.Character c) text rest is e s h = character_is c text is e
token_stands before (t.Text value) text rest is e s h = (refl, text_is text value.bytes e.fit e.whole)
token_stands before (t.Mark mark) text rest is e s h =
    let stands = mark_stands before mark rest s h in
    (e, stands.is_longest, ap (λ l. begins_comment (l ++ rest)) e ∙ stands.no_comment, stands.fitting)

name_low : (name : List ℕ) → is_name name ≡ true → AreLow name
name_low name h = low_from is_name_byte name name_byte_low (and_true (begins is_name_start name) (list_all is_name_byte name) h).1

pub token_low : (kind : TokenKind) (text : List ℕ) → IsOfLanguage kind → IsSpelling kind text → AreLow text
token_low (t.Identifier name) text is e =
    subst AreLow (sym e) (name_low name.bytes (and_true (is_name name.bytes) (not (bytes_eq name.bytes (95 ∷ [])) && is_none (word_of name.bytes)) is).0)
token_low (t.Reserved word) text is e = subst AreLow (sym e) (name_low (word_text word) (word_is_name word))
token_low (t.Number n) text is e = numeral_low 10 n text (omega arith) e.numeral
token_low (t.Character c) text is e = character_low c text e
token_low (t.Text value) text is e = text_low text value.bytes e.fit e.whole
token_low (t.Mark mark) text is e = subst AreLow (sym e) (mark_low mark)
  where
    mark_low : (mark : Mark) → AreLow (mark_text mark)
    mark_low m.Underscore = refl
    mark_low _ = refl
