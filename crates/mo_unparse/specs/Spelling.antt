-- How tokens are written.
use Rattle.std.specs.Prelude.{◌≡◌, ℕ, ◌<◌, ◌^◌, ◌/◌, ◌%◌, ◌==◌, Bool, true, false, ◌&&◌, not, if◌then◌else◌, nat_lt, nat_le, List, [], ◌∷◌, ◌++◌, codes}
use Rattle.std.specs.List.{flat_map, list_all, All}
use Rattle.std.specs.Char.{digit_char}
use Rattle.mo_syntax.specs.Characters.{is_digit, begins, value_of}
use Rattle.mo_syntax.specs.Words.{word_text, mark_text}
use Rattle.mo_syntax.specs.Lexed.{Piece, blank, comment, text_of}
use Rattle.mo_syntax.specs.declared.mark.Mark.{Mark}
use Rattle.mo_syntax.specs.declared.mark.Mark.TheVariants as m
use Rattle.mo_syntax.specs.declared.word.Word.{Word}
use Rattle.mo_syntax.specs.declared.word.Word.TheVariants as w
use Rattle.mo_syntax.specs.declared.token.TokenKind.{TokenKind}
use Rattle.mo_syntax.specs.declared.token.TokenKind.TheVariants as t
use Rattle.mo_unparse.specs.declared.last.Last.{Last}
use Rattle.mo_unparse.specs.declared.last.Last.TheVariants as last

abbrev pub last_of_word : Word → Last
last_of_word w.True = last.Operand
last_of_word w.False = last.Operand
last_of_word w.Null = last.Operand
last_of_word _ = last.Other

abbrev pub last_of_mark : Mark → Last
last_of_mark m.ParenClose = last.Operand
last_of_mark m.BracketClose = last.Operand
last_of_mark m.BraceClose = last.Operand
last_of_mark m.AngleClose = last.Operand
last_of_mark m.Tag = last.Tag
last_of_mark _ = last.Other

abbrev pub last_of : TokenKind → Last
last_of (t.Identifier name) = last.Operand
last_of (t.Reserved word) = last_of_word word
last_of (t.Number n) = last.Operand
last_of (t.Character c) = last.Operand
last_of (t.Text value) = last.Operand
last_of (t.Mark mark) = last_of_mark mark

abbrev pub is_angle_mark : Mark → Bool
is_angle_mark m.AngleOpen = true
is_angle_mark m.AngleClose = true
is_angle_mark _ = false

-- a bracket of types
abbrev pub is_angle : TokenKind → Bool
is_angle (t.Mark mark) = is_angle_mark mark
is_angle _ = false

-- the pieces in front of a token, which is a bracket of types or not
abbrev pub gap : Last → Bool → List Piece
gap last.Tag angle = []
gap last.Operand true = []
gap last.Operand false = blank 32 ∷ []
gap last.Other true = blank 32 ∷ comment (codes "/**/") ∷ []
gap last.Other false = blank 32 ∷ []

-- the text is a numeral of the value, of digits alone
pub record Numeral (base value : ℕ) (text : List ℕ) : Type 0 where
  pub some : begins (is_digit base) text ≡ true
  pub digits : list_all (is_digit base) text ≡ true
  pub value_is : value ≡ value_of base text

pub record AddsNumeral (base value : ℕ) (old new : List ℕ) : Type 0 where
  pub text : List ℕ
  pub added : new ≡ old ++ text
  pub numeral : Numeral base value text

-- a visible ASCII character that stands for itself in a text
abbrev pub is_shown : ℕ → Bool
is_shown b = ((nat_lt b 127 && nat_le 32 b) && not (b == 34)) && not (b == 92)

-- a byte within a text
unfoldable pub shown : ℕ → List ℕ
shown b = if is_shown b then b ∷ [] else 92 ∷ digit_char (b / 16) ∷ digit_char (b % 16) ∷ []

-- a text of these bytes, each of which is one
pub record TextText (bytes text : List ℕ) : Type 0 where
  pub fit : All (λ b. b < 256) bytes
  pub whole : text ≡ 34 ∷ flat_map shown bytes ++ 34 ∷ []

pub record AddsText (bytes old new : List ℕ) : Type 0 where
  pub text : List ℕ
  pub added : new ≡ old ++ text
  pub is : TextText bytes text

pub record NumberText (value : ℕ) (text : List ℕ) : Type 0 where
  pub fits : value < 2 ^ 64
  pub numeral : Numeral 10 value text

pub record AddsNumber (value : ℕ) (old new : List ℕ) : Type 0 where
  pub text : List ℕ
  pub added : new ≡ old ++ text
  pub is : NumberText value text

pub record CharacterText (value : ℕ) (text : List ℕ) : Type 0 where
  pub digits : List ℕ
  pub whole : text ≡ codes "'\\u{" ++ digits ++ codes "}'"
  pub numeral : Numeral 16 value digits

pub record AddsCharacter (value : ℕ) (old new : List ℕ) : Type 0 where
  pub text : List ℕ
  pub added : new ≡ old ++ text
  pub is : CharacterText value text

-- the text is how a token of this kind is written
abbrev pub IsSpelling : TokenKind → List ℕ → Type 0
IsSpelling (t.Identifier name) text = text ≡ name.bytes
IsSpelling (t.Reserved word) text = text ≡ word_text word
IsSpelling (t.Number n) text = NumberText n text
IsSpelling (t.Character c) text = CharacterText c text
IsSpelling (t.Text value) text = TextText value.bytes text
IsSpelling (t.Mark mark) text = text ≡ mark_text mark

pub record Adds (kind : TokenKind) (old new : List ℕ) : Type 0 where
  pub text : List ℕ
  pub added : new ≡ old ++ text
  pub spells : IsSpelling kind text

pub record AddsNext (before : Last) (kind : TokenKind) (old new : List ℕ) : Type 0 where
  pub text : List ℕ
  pub added : new ≡ old ++ (text_of (gap before (is_angle kind)) ++ text)
  pub spells : IsSpelling kind text
