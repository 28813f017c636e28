-- Characters that can be written in a program (The Unicode Standard, section "Encoding Forms": Unicode scalar values).
use Rattle.std.specs.Prelude.{ℕ}
use Rattle.mo_types.specs.Values.{IsScalar}
use Rattle.typing_rules.specs.AbstractSyntax.{Literal, Pattern, Patterns, PatternFields}
use Rattle.typing_rules.specs.AbstractSyntax as p

abbrev pub IsWritten : Literal → Type 0
IsWritten (p.Character c) = IsScalar c
IsWritten _ = Unit {0}

-- each character in a pattern is one
abbrev mutual
  pub PatternIsWritten : Pattern ℕ → Type 0
  PatternIsWritten (p.pattern n (p.Annotated q a)) = PatternIsWritten q
  PatternIsWritten (p.pattern n (p.Alternative q r)) = PatternIsWritten q × PatternIsWritten r
  PatternIsWritten (p.pattern n (p.Optional q)) = PatternIsWritten q
  PatternIsWritten (p.pattern n (p.Tag x)) = Unit {0}
  PatternIsWritten (p.pattern n (p.Tagged x q)) = PatternIsWritten q
  PatternIsWritten (p.pattern n (p.Variable x)) = Unit {0}
  PatternIsWritten (p.pattern n p.Wildcard) = Unit {0}
  PatternIsWritten (p.pattern n (p.Constant minus l)) = IsWritten l
  PatternIsWritten (p.pattern n (p.Tuple items)) = EachIsWritten items
  PatternIsWritten (p.pattern n (p.Object fields)) = FieldsAreWritten fields

  pub EachIsWritten : Patterns ℕ → Type 0
  EachIsWritten p.Nil = Unit {0}
  EachIsWritten (p.Cons q rest) = PatternIsWritten q × EachIsWritten rest

  pub FieldsAreWritten : PatternFields ℕ → Type 0
  FieldsAreWritten p.NoFields = Unit {0}
  FieldsAreWritten (p.Field x q rest) = PatternIsWritten q × FieldsAreWritten rest
