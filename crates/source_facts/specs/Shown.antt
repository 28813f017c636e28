-- What the front end shows of the tokens of a tree.
use Rattle.std.specs.Prelude.{◌≡◌, true}
use Rattle.mo_syntax.specs.declared.token.TokenKind.{TokenKind}
use Rattle.mo_syntax.specs.declared.token.TokenKind.TheVariants as t
use Rattle.mo_syntax.specs.Parts.{Each}
use Rattle.mo_syntax.specs.Writing.{Writing}
use Rattle.mo_types.specs.Values.{IsScalar, is_method_name}

-- A character is a Unicode scalar value, and a name is one that a method may have.
abbrev pub IsTokenWritten : TokenKind → Type 0
IsTokenWritten (t.Character c) = IsScalar c
IsTokenWritten (t.Identifier x) = is_method_name x.bytes ≡ true
IsTokenWritten _ = Unit {0}

abbrev pub AreWritten : Writing → Type 0
AreWritten = Each IsTokenWritten
