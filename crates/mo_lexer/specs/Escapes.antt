-- What is found of an escape.
use Rattle.std.specs.Prelude.{◌≡◌, ℕ, ◌≤◌, Bool, true, List, length, take}
use Rattle.mo_syntax.specs.Lexed.{Escaped, character, byte, IsEscape}
use Rattle.mo_lexer.specs.declared.escape.Escape.{Escape}
use Rattle.mo_lexer.specs.declared.escape.Escape.TheVariants as escape

-- the escape that an answer of the code is, with its length
pub record EscapeIs (text : List ℕ) (escaped : Escaped) (len : ℕ) : Type 0 where
  pub within : len ≤ length text
  pub is_escape : IsEscape (take len text) escaped

abbrev pub EscapeFound : Bool → List ℕ → Escape → Type 0
EscapeFound in_text text (escape.Scalar c len) = EscapeIs text (character c) len
EscapeFound in_text text (escape.Byte b len) = EscapeIs text (byte b) len × (in_text ≡ true)
EscapeFound in_text text escape.Bad = Unit {0}
EscapeFound in_text text escape.Ends = Unit {0}
