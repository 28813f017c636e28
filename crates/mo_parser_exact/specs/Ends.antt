-- What may stand behind an expression, so that the expression ends there.
use Rattle.std.specs.Prelude.{◌≡◌, ◌≢◌, ℕ, ◌<◌, false, Option, Some, None}
use Rattle.mo_syntax.specs.declared.token.TokenKind.{TokenKind}
use Rattle.mo_syntax.specs.declared.token.TokenKind.TheVariants as t
use Rattle.mo_syntax.specs.declared.mark.Mark.TheVariants as m
use Rattle.mo_parser_patterns.specs.Ends.{look_next}
use Rattle.mo_parser_expressions.specs.Signs as s

-- nothing goes on with an operand
abbrev pub EndsPostfix : Option TokenKind → Type 0
EndsPostfix next = s.goes_on (look_next next) ≡ false

-- nor does an operator of at least this level
pub record EndsOperations (least : ℕ) (next : Option TokenKind) : Type 0 where
  pub chain : s.goes_on (look_next next) ≡ false
  pub below : s.level_at (s.operator (look_next next)) < least

-- nor anything else
pub record EndsExpression (next : Option TokenKind) : Type 0 where
  pub chain : s.goes_on (look_next next) ≡ false
  pub below : s.level_at (s.operator (look_next next)) < 2
  pub assignment : s.assignment (look_next next) ≡ None
  pub colon : next ≢ Some (t.Mark m.Colon)
  pub arrow : next ≢ Some (t.Mark m.Arrow)
  pub brace : next ≢ Some (t.Mark m.BraceOpen)
