-- What may stand behind a pattern, so that the pattern ends there.
use Rattle.std.specs.Prelude.{◌≡◌, ◌≢◌, ℕ, ◌++◌, Bool, false, Option, Some, None, Result, Ok, Err}
use Rattle.mo_syntax.specs.declared.token.TokenKind.{TokenKind}
use Rattle.mo_syntax.specs.declared.token.TokenKind.TheVariants as t
use Rattle.mo_syntax.specs.declared.word.Word.TheVariants as w
use Rattle.mo_syntax.specs.declared.mark.Mark.TheVariants as m
use Rattle.mo_syntax.specs.declared.patterns.Pattern.{Pattern}
use Rattle.mo_syntax.specs.PatternGrammar.{pattern_tokens, IsPattern}
use Rattle.mo_parser_base.specs.declared.look.Look.{Look}
use Rattle.mo_parser_base.specs.declared.look.Look.TheVariants as l
use Rattle.mo_parser_base.specs.declared.stop.Stop.{Stop}
use Rattle.mo_parser_base.specs.declared.stop.Stop.TheVariants as stops
use Rattle.mo_parser_base.specs.Input.{Input, look_of}
use Rattle.mo_parser_types.specs.Ends.{EndsType}
use Rattle.mo_parser_patterns.specs.Patterns.{begins}

abbrev pub look_next : Option TokenKind → Look
look_next None = l.End
look_next (Some token) = look_of token

-- the token begins no pattern that a tag could carry
abbrev pub EndsUnary : Option TokenKind → Type 0
EndsUnary next = begins (look_next next) ≡ false

-- nor does it go on with `or`
abbrev pub EndsAlternatives : Option TokenKind → Type 0
EndsAlternatives next = EndsUnary next × (next ≢ Some (t.Reserved w.Or))

-- nor with a type
abbrev pub EndsPattern : Option TokenKind → Type 0
EndsPattern next = EndsAlternatives next × ((next ≢ Some (t.Mark m.Colon)) × EndsType next)

-- the pattern of a level is the front of the tokens, and these are the rest
pub record IsFront (level : ℕ) (x : Pattern) (tokens rest : Input) : Type 0 where
  pub text : tokens ≡ pattern_tokens x ++ rest
  pub good : IsPattern x level

-- this pattern is read and leaves the rest, unless there is no memory
abbrev pub Finds : Pattern → Input → Result Pattern Stop → Input → Type 0
Finds x rest (Ok y) new = (y ≡ x) × (new ≡ rest)
Finds x rest (Err stop) new = stop ≡ stops.Memory
