-- What may stand behind a type, so that the type ends there.
use Rattle.std.specs.Prelude.{◌≡◌, ◌≢◌, ◌++◌, Option, Some, Result, Ok, Err}
use Rattle.mo_syntax.specs.declared.token.TokenKind.{TokenKind}
use Rattle.mo_syntax.specs.declared.token.TokenKind.TheVariants as t
use Rattle.mo_syntax.specs.declared.mark.Mark.TheVariants as m
use Rattle.mo_syntax.specs.declared.types.TypeExpression.{TypeExpression}
use Rattle.mo_syntax.specs.TypeGrammar.{type_tokens, IsType, type}
use Rattle.mo_parser_base.specs.declared.stop.Stop.{Stop}
use Rattle.mo_parser_base.specs.declared.stop.Stop.TheVariants as stops
use Rattle.mo_parser_base.specs.Input.{Input}

-- no arguments follow
abbrev pub EndsPrefix : Option TokenKind → Type 0
EndsPrefix next = next ≢ Some (t.Mark m.AngleOpen)

-- neither arguments nor a result follow
abbrev pub EndsType : Option TokenKind → Type 0
EndsType next = (next ≢ Some (t.Mark m.AngleOpen)) × (next ≢ Some (t.Mark m.Arrow))

-- the type is the front of the tokens, and these are the rest
pub record IsFront (x : TypeExpression) (tokens rest : Input) : Type 0 where
  pub text : tokens ≡ type_tokens x ++ rest
  pub good : IsType x type

-- this type is read and leaves the rest, unless there is no memory
abbrev pub Finds : TypeExpression → Input → Result TypeExpression Stop → Input → Type 0
Finds x rest (Ok y) new = (y ≡ x) × (new ≡ rest)
Finds x rest (Err stop) new = stop ≡ stops.Memory
