-- Public fields of objects and classes are functions, or `let` and `var` with an annotated type (Motoko language manual, sections "Objects" and
-- "Class declaration").
use Rattle.std.specs.Prelude.{ℕ, true, false}
use Rattle.typing_rules.specs.declared.condition.Condition.TheVariants as condition
use Rattle.typing_rules.specs.AbstractSyntax.{Pattern, Patterns, PatternFields, Declaration, Declarations}
use Rattle.typing_rules.specs.AbstractSyntax as p
use Rattle.typing_rules.specs.Judgements.{Judgement, Fails, Part, Given, Tests, Fine}
use Rattle.typing_rules.specs.Patterns.{is_empty}

abbrev mutual
  -- each name of the pattern stands directly under its type
  pub EachAnnotated : Pattern ℕ → Judgement (Unit {0})
  EachAnnotated (p.pattern at (p.Annotated (p.pattern inner (p.Variable x)) a)) = Fine
  EachAnnotated (p.pattern at (p.Annotated q a)) = EachAnnotated q
  EachAnnotated (p.pattern at (p.Alternative q r)) = Fine
  EachAnnotated (p.pattern at (p.Optional q)) = EachAnnotated q
  EachAnnotated (p.pattern at (p.Tag x)) = Fine
  EachAnnotated (p.pattern at (p.Tagged x q)) = EachAnnotated q
  EachAnnotated (p.pattern at (p.Variable x)) = Fails condition.NeedsType at
  EachAnnotated (p.pattern at p.Wildcard) = Fine
  EachAnnotated (p.pattern at (p.Constant minus l)) = Fine
  EachAnnotated (p.pattern at (p.Tuple items)) = AllAnnotated items
  EachAnnotated (p.pattern at (p.Object fields)) = FieldsAnnotated fields

  pub AllAnnotated : Patterns ℕ → Judgement (Unit {0})
  AllAnnotated p.Nil = Fine
  AllAnnotated (p.Cons q rest) = Part (EachAnnotated q) (λ _. AllAnnotated rest)

  pub FieldsAnnotated : PatternFields ℕ → Judgement (Unit {0})
  FieldsAnnotated p.NoFields = Fine
  FieldsAnnotated (p.Field x q rest) = Part (EachAnnotated q) (λ _. FieldsAnnotated rest)

-- A public function or class has no type parameters.
abbrev pub PublicField : Declaration ℕ → Judgement (Unit {0})
PublicField (p.Let q a) = EachAnnotated q
PublicField (p.Var stable x u a) = Given condition.NeedsType x.at u (λ _. Fine)
PublicField (p.Func x g body) = Tests condition.TypeArguments x.at (is_empty g.generics) Fine
PublicField (p.Class x g fields) = Tests condition.TypeArguments x.at (is_empty g.generics) Fine
PublicField (p.NamedObject x fields) = Fails condition.NeedsType x.at
PublicField _ = Fine

abbrev pub PublicFields : Declarations ℕ → Judgement (Unit {0})
PublicFields p.End = Fine
PublicFields (p.Then true at d rest) = Part (PublicField d) (λ _. PublicFields rest)
PublicFields (p.Then false at d rest) = PublicFields rest
