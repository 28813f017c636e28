-- Where tokens stand, and what each leaves directly before the next place.
use Rattle.std.specs.Prelude.{ℕ, ◌<◌, ◌≤◌, List, [], ◌∷◌}
use Rattle.mo_syntax.specs.declared.place.Place.{Place}
use Rattle.mo_syntax.specs.declared.token.Token.{Token}
use Rattle.mo_syntax.specs.declared.word.Word.TheVariants as w
use Rattle.mo_syntax.specs.declared.mark.Mark.TheVariants as m
use Rattle.mo_syntax.specs.declared.before.Before.{Before}
use Rattle.mo_syntax.specs.declared.before.Before.TheVariants as b
use Rattle.mo_syntax.specs.declared.token.TokenKind.{TokenKind}
use Rattle.mo_syntax.specs.declared.token.TokenKind.TheVariants as t
use Rattle.mo_syntax.specs.declared.word.Word.{Word}
use Rattle.mo_syntax.specs.declared.mark.Mark.{Mark}

-- `true`, `false` and `null` are literals
abbrev pub before_of_word : Word → Before
before_of_word w.True = b.Operand
before_of_word w.False = b.Operand
before_of_word w.Null = b.Operand
before_of_word _ = b.Other

abbrev pub before_of_mark : Mark → Before
before_of_mark m.ParenClose = b.Operand
before_of_mark m.BracketClose = b.Operand
before_of_mark m.BraceClose = b.Operand
before_of_mark m.AngleClose = b.Operand
before_of_mark _ = b.Other

-- identifiers, literals and closing brackets are operands
abbrev pub before_of : TokenKind → Before
before_of (t.Identifier name) = b.Operand
before_of (t.Reserved word) = before_of_word word
before_of (t.Number n) = b.Operand
before_of (t.Character c) = b.Operand
before_of (t.Text text) = b.Operand
before_of (t.Mark mark) = before_of_mark mark

-- the kind of a token that stands there: a name or text has its place
abbrev pub placed : Place → TokenKind → TokenKind
placed place (t.Identifier name) = t.Identifier (record { bytes = name.bytes; place = place })
placed place (t.Text text) = t.Text (record { bytes = text.bytes; place = place })
placed place kind = kind

-- of a name or text whose place is not said
abbrev pub nowhere : Place
nowhere = record { start = 0; «end» = 0 }

-- what a token is, wherever it stands
abbrev pub plain : TokenKind → TokenKind
plain = placed nowhere

-- Each token has some bytes, and they stand behind those of the one before it: from the first place on, and up to the last.
abbrev pub AreInOrder : ℕ → ℕ → List Token → Type 0
AreInOrder first last [] = first ≤ last
AreInOrder first last (token ∷ tokens) = (first ≤ token.start) × (token.start < token.end) × AreInOrder token.end last tokens
