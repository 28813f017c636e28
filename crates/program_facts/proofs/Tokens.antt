-- The tokens of a source.
use Rattle.std.proofs.Common.{◌≡◌, ◌⊎◌, inl, inr, ℕ, ◌+◌, ◌<◌, ◌≤◌, Bool, true, false, ◌||◌, ◌==◌, List, [], ◌∷◌, ◌++◌, length, Some, None, refl, sym, ap, ◌∙◌, subst, arith, ◌&&◌, cond}
use Rattle.std.proofs.lemmas.Bool.{eqb-true, leb-true, ltb-true, lt-ltb}
use Rattle.std.specs.Prelude.{if◌then◌else◌, nat_lt, nat_le, not, is_none, codes}
use Rattle.std.specs.List.{list_all}
use Rattle.std.specs.Int.{is_in_range}
use Rattle.std.specs.Str.{bytes_eq}
use Rattle.std.specs.Char.{IsScalar, is_ascii_alphabetic, is_ascii_digit}
use Rattle.mo_parser_base.specs.Input.{kinds}
use Rattle.mo_syntax.specs.declared.before.Before.{Before}
use Rattle.mo_syntax.specs.declared.before.Before.TheVariants as beside
use Rattle.mo_syntax.specs.declared.place.Place.{Place}
use Rattle.mo_syntax.specs.declared.token.TokenKind.{TokenKind}
use Rattle.mo_syntax.specs.declared.token.TokenKind.TheVariants as t
use Rattle.mo_syntax.specs.Characters.{begins, is_name_byte, is_name_start}
use Rattle.mo_syntax.specs.Words.{word_of}
use Rattle.mo_syntax.specs.Lexed.{is_identifier, is_name, Piece, blank, comment, token, IsToken, IsCharacter, IsEscape, character, letter_escape, piece_text, AllStand, before_next, text_of, tokens_from}
use Rattle.mo_syntax.specs.Tokens.{placed}
use Rattle.mo_types.specs.Values as values
use Rattle.program_facts.specs.Laws.{TokensAreWritten}
use Rattle.source_facts.specs.Shown.{IsTokenWritten, AreWritten}

-- ---- characters

in_range : (c : ℕ) → IsScalar c → values.IsScalar c
in_range c e = by (nat_lt c 55296) refl e where
  above : (a b : Bool) → nat_le 57344 c ≡ a → nat_lt c 1114112 ≡ b → (a && b) ≡ true → (57344 ≤ c) × (c < 1114112)
  above true true f g h = (leb-true 57344 c f, ltb-true c 1114112 g)
  above true false f g h = let no : false ≡ true = h in cc
  above false b f g h = let no : false ≡ true = h in cc

  by : (t : Bool) → nat_lt c 55296 ≡ t → cond t true (nat_le 57344 c && nat_lt c 1114112) ≡ true → values.IsScalar c
  by true f h = inl (ltb-true c 55296 f)
  by false f h = inr (above (nat_le 57344 c) (nat_lt c 1114112) refl refl h)

small : (c n : ℕ) → c ≡ n → n < 55296 → values.IsScalar c
small c n e l = inl (let q : c ≡ n = e in omega arith)

some_is : (x y : ℕ) → Some x ≡ Some y → y ≡ x
some_is x y h = cc

no_some : (x : ℕ) → None ≡ Some x → ⊥
no_some x h = cc

same_number : (a b : ℕ) → (a == b) ≡ true → a ≡ b
same_number a b h = eqb-true a b h

-- an escape of one letter is a character below 128
letter_written : (b c : ℕ) → letter_escape b ≡ Some c → values.IsScalar c
letter_written b c h = one (b == 110) (b == 114) (b == 116) (b == 92) (b == 34) (b == 39) refl refl refl h where
  own : (x y z : Bool) → (b == 92) ≡ x → (b == 34) ≡ y → (b == 39) ≡ z → (if x || (y || z) then Some b else None) ≡ Some c → values.IsScalar c
  own true y z i j k h = small c 92 (some_is b c h ∙ same_number b 92 i) (omega arith)
  own false true z i j k h = small c 34 (some_is b c h ∙ same_number b 34 j) (omega arith)
  own false false true i j k h = small c 39 (some_is b c h ∙ same_number b 39 k) (omega arith)
  own false false false i j k h = absurd (no_some c h)

  one : (n r t x y z : Bool) → (b == 92) ≡ x → (b == 34) ≡ y → (b == 39) ≡ z
      → (if n then Some 10 else (if r then Some 13 else (if t then Some 9 else (if x || (y || z) then Some b else None)))) ≡ Some c → values.IsScalar c
  one true r t x y z i j k h = small c 10 (some_is 10 c h) (omega arith)
  one false true t x y z i j k h = small c 13 (some_is 13 c h) (omega arith)
  one false false true x y z i j k h = small c 9 (some_is 9 c h) (omega arith)
  one false false false x y z i j k h = own x y z i j k h

character_written : (text : List ℕ) (c : ℕ) → IsCharacter text c → values.IsScalar c
character_written text c (inl h) = in_range c h.1
character_written text c (inr h) = escape h.2 where
  escape : IsEscape h.0 (character c) → values.IsScalar c
  escape (inl e) = letter_written e.0 c e.2
  escape (inr e) = in_range c e.5

-- ---- names

and_true : (a b : Bool) → (a && b) ≡ true → (a ≡ true) × (b ≡ true)
and_true true true h = (refl, refl)
and_true true false h = let no : false ≡ true = h in cc
and_true false b h = let no : false ≡ true = h in cc

and_of : (a b : Bool) → a ≡ true → b ≡ true → (a && b) ≡ true
and_of true true h k = refl
and_of true false h k = k
and_of false b h k = h

or_true : (a b : Bool) → (a || b) ≡ true → (a ≡ true) ⊎ (b ≡ true)
or_true true b h = inl refl
or_true false b h = inr h

abbrev is_part : ℕ → Bool
is_part c = nat_lt 32 c && nat_lt c 127

between : (low high b : ℕ) → 32 < low → high < 127 → is_in_range low high b ≡ true → is_part b ≡ true
between low high b l h i =
    let w = and_true (nat_le low b) (nat_le b high) i in
    let lower : low ≤ b = leb-true low b w.0 in let upper : b ≤ high = leb-true b high w.1 in
    and_of (nat_lt 32 b) (nat_lt b 127) (lt-ltb 32 b (omega arith)) (lt-ltb b 127 (omega arith))

name_part : (b : ℕ) → is_name_byte b ≡ true → is_part b ≡ true
name_part b h = first (or_true (is_name_start b) (is_ascii_digit b) h) where
  letter : (is_in_range 65 90 b ≡ true) ⊎ (is_in_range 97 122 b ≡ true) → is_part b ≡ true
  letter (inl i) = between 65 90 b (omega arith) (omega arith) i
  letter (inr i) = between 97 122 b (omega arith) (omega arith) i

  start : (is_ascii_alphabetic b ≡ true) ⊎ ((b == 95) ≡ true) → is_part b ≡ true
  start (inl i) = letter (or_true (is_in_range 65 90 b) (is_in_range 97 122 b) i)
  start (inr i) = let e : b ≡ 95 = eqb-true b 95 i in and_of (nat_lt 32 b) (nat_lt b 127) (lt-ltb 32 b (omega arith)) (lt-ltb b 127 (omega arith))

  first : (is_name_start b ≡ true) ⊎ (is_ascii_digit b ≡ true) → is_part b ≡ true
  first (inl i) = start (or_true (is_ascii_alphabetic b) (b == 95) i)
  first (inr i) = between 48 57 b (omega arith) (omega arith) i

parts_of_name : (text : List ℕ) → list_all is_name_byte text ≡ true → list_all is_part text ≡ true
parts_of_name [] h = refl
parts_of_name (b ∷ text) h =
    let w = and_true (is_name_byte b) (list_all is_name_byte text) h in and_of (is_part b) (list_all is_part text) (name_part b w.0) (parts_of_name text w.1)

method_name : (text : List ℕ) → is_name text ≡ true → values.is_method_name text ≡ true
method_name [] h = h
method_name (b ∷ text) h = parts_of_name (b ∷ text) (and_true (begins is_name_start (b ∷ text)) (list_all is_name_byte (b ∷ text)) h).1

identifier_written : (text : List ℕ) → is_identifier text ≡ true → values.is_method_name text ≡ true
identifier_written text h = method_name text (and_true (is_name text) (not (bytes_eq text (codes "_")) && is_none (word_of text)) h).0

-- ---- tokens

token_written : (before : Before) (kind : TokenKind) (text rest : List ℕ) (place : Place) → IsToken before kind text rest → IsTokenWritten (placed place kind)
token_written before (t.Identifier x) text rest place h = subst (λ (z : List ℕ). values.is_method_name z ≡ true) (ap (λ y. y.bytes) (sym h.0)) (identifier_written text h.1)
token_written before (t.Reserved x) text rest place h = tt
token_written before (t.Number n) text rest place h = tt
token_written before (t.Character c) text rest place h = character_written text c h
token_written before (t.Text x) text rest place h = tt
token_written before (t.Mark x) text rest place h = tt

pieces_written : (before : Before) (pieces : List Piece) (place : ℕ) → AllStand before pieces [] → AreWritten (kinds (tokens_from place pieces))
pieces_written before [] place h = tt
pieces_written before (blank b ∷ pieces) place h = pieces_written (before_next (blank b)) pieces (place + length (piece_text (blank b))) h.1
pieces_written before (comment text ∷ pieces) place h = pieces_written (before_next (comment text)) pieces (place + length (piece_text (comment text))) h.1
pieces_written before (token kind text ∷ pieces) place h =
    (token_written before kind text (text_of pieces ++ []) (record { start = place; «end» = place + length text }) h.0, pieces_written (before_next (token kind text)) pieces (place + length (piece_text (token kind text))) h.1)

pub tokens_are_written : TokensAreWritten
tokens_are_written source tokens tree lexed spelled =
    subst AreWritten spelled.text (subst (λ z. AreWritten (kinds z)) (sym lexed.listed) (pieces_written beside.Other lexed.pieces 0 lexed.stand))
