-- Sources whose patterns bind no names in alternatives, as the rules of patterns see to it.
use Rattle.std.specs.Prelude.{◌≡◌, ℕ, []}
use Rattle.typing_rules.specs.AbstractSyntax.{Pattern, Patterns, PatternFields, Expression, Expressions, Cases, ObjectFields, Declaration, Declarations}
use Rattle.typing_rules.specs.AbstractSyntax as p
use Rattle.desugaring.specs.FreeNames.{names_in}

abbrev mutual
  pub PatternIsPlain : Pattern ℕ → Type 0
  PatternIsPlain (p.pattern n (p.Annotated q a)) = PatternIsPlain q
  PatternIsPlain (p.pattern n (p.Alternative q r)) = (PatternIsPlain q × (names_in q ≡ [])) × (PatternIsPlain r × (names_in r ≡ []))
  PatternIsPlain (p.pattern n (p.Optional q)) = PatternIsPlain q
  PatternIsPlain (p.pattern n (p.Tag x)) = Unit {0}
  PatternIsPlain (p.pattern n (p.Tagged x q)) = PatternIsPlain q
  PatternIsPlain (p.pattern n (p.Variable x)) = Unit {0}
  PatternIsPlain (p.pattern n p.Wildcard) = Unit {0}
  PatternIsPlain (p.pattern n (p.Constant minus l)) = Unit {0}
  PatternIsPlain (p.pattern n (p.Tuple items)) = EachPatternIsPlain items
  PatternIsPlain (p.pattern n (p.Object fields)) = PatternFieldsArePlain fields

  pub EachPatternIsPlain : Patterns ℕ → Type 0
  EachPatternIsPlain p.Nil = Unit {0}
  EachPatternIsPlain (p.Cons q rest) = PatternIsPlain q × EachPatternIsPlain rest

  pub PatternFieldsArePlain : PatternFields ℕ → Type 0
  PatternFieldsArePlain p.NoFields = Unit {0}
  PatternFieldsArePlain (p.Field x q rest) = PatternIsPlain q × PatternFieldsArePlain rest

abbrev mutual
  pub IsPlain : Expression ℕ → Type 0
  IsPlain (p.exp n (p.Constant l)) = Unit {0}
  IsPlain (p.exp n (p.Name x)) = Unit {0}
  IsPlain (p.exp n (p.Tuple items)) = EachIsPlain items
  IsPlain (p.exp n (p.Optional a)) = IsPlain a
  IsPlain (p.exp n (p.Tag x)) = Unit {0}
  IsPlain (p.exp n (p.Tagged x a)) = IsPlain a
  IsPlain (p.exp n (p.Array mutable items)) = EachIsPlain items
  IsPlain (p.exp n (p.Object fields)) = FieldsArePlain fields
  IsPlain (p.exp n (p.Member a x)) = IsPlain a
  IsPlain (p.exp n (p.Projection a i)) = IsPlain a
  IsPlain (p.exp n (p.Index a i)) = IsPlain a × IsPlain i
  IsPlain (p.exp n (p.Annotated a t)) = IsPlain a
  IsPlain (p.exp n (p.Negative a)) = IsPlain a
  IsPlain (p.exp n (p.Binary o a b)) = IsPlain a × IsPlain b
  IsPlain (p.exp n (p.Not a)) = IsPlain a
  IsPlain (p.exp n (p.Assign q a)) = IsPlain q × IsPlain a
  IsPlain (p.exp n (p.AssignBy o q a)) = IsPlain q × IsPlain a
  IsPlain (p.exp n (p.Call f types arguments)) = IsPlain f × EachIsPlain arguments
  IsPlain (p.exp n (p.When c a)) = IsPlain c × IsPlain a
  IsPlain (p.exp n (p.If c a b)) = (IsPlain c × IsPlain a) × IsPlain b
  IsPlain (p.exp n (p.Switch a cases)) = IsPlain a × CasesArePlain cases
  IsPlain (p.exp n (p.Try a q b)) = IsPlain a × (PatternIsPlain q × IsPlain b)
  IsPlain (p.exp n (p.While c a)) = IsPlain c × IsPlain a
  IsPlain (p.exp n (p.Loop a)) = IsPlain a
  IsPlain (p.exp n (p.LoopWhile a c)) = IsPlain a × IsPlain c
  IsPlain (p.exp n (p.For q a b)) = IsPlain a × (PatternIsPlain q × IsPlain b)
  IsPlain (p.exp n (p.Label x t a)) = IsPlain a
  IsPlain (p.exp n (p.Break x)) = Unit {0}
  IsPlain (p.exp n (p.BreakWith x a)) = IsPlain a
  IsPlain (p.exp n (p.Continue x)) = Unit {0}
  IsPlain (p.exp n p.Return) = Unit {0}
  IsPlain (p.exp n (p.ReturnWith a)) = IsPlain a
  IsPlain (p.exp n (p.Throw a)) = IsPlain a
  IsPlain (p.exp n (p.Do a)) = IsPlain a
  IsPlain (p.exp n (p.DoOption a)) = IsPlain a
  IsPlain (p.exp n (p.Bang a)) = IsPlain a
  IsPlain (p.exp n (p.Block ds)) = ArePlain ds
  IsPlain (p.exp n (p.Function g body)) = EachPatternIsPlain g.parameters × IsPlain body
  IsPlain (p.exp n (p.ObjectBlock fields)) = ArePlain fields
  IsPlain (p.exp n (p.Assert a)) = IsPlain a
  IsPlain (p.exp n (p.Ignore a)) = IsPlain a
  IsPlain (p.exp n (p.Debug a)) = IsPlain a
  IsPlain (p.exp n (p.ActorReference x)) = Unit {0}
  IsPlain (p.exp n (p.Await a)) = IsPlain a
  IsPlain (p.exp n (p.BuiltIn m)) = Unit {0}
  IsPlain (p.exp n (p.Subsumed a)) = IsPlain a

  pub EachIsPlain : Expressions ℕ → Type 0
  EachIsPlain p.Nil = Unit {0}
  EachIsPlain (p.Cons a rest) = IsPlain a × EachIsPlain rest

  pub CasesArePlain : Cases ℕ → Type 0
  CasesArePlain p.NoCases = Unit {0}
  CasesArePlain (p.Case q a rest) = (PatternIsPlain q × IsPlain a) × CasesArePlain rest

  pub FieldsArePlain : ObjectFields ℕ → Type 0
  FieldsArePlain p.NoFields = Unit {0}
  FieldsArePlain (p.Field mutable x t a rest) = IsPlain a × FieldsArePlain rest

  pub ArePlain : Declarations ℕ → Type 0
  ArePlain p.End = Unit {0}
  ArePlain (p.Then public n d rest) = DeclarationIsPlain d × ArePlain rest

  -- Public and system functions use nothing in their list.
  pub DeclarationIsPlain : Declaration ℕ → Type 0
  DeclarationIsPlain (p.Let q a) = PatternIsPlain q × IsPlain a
  DeclarationIsPlain (p.Var stable x t a) = IsPlain a
  DeclarationIsPlain (p.Func x g body) = EachPatternIsPlain g.parameters × IsPlain body
  DeclarationIsPlain (p.Method query context x g body) = Unit {0}
  DeclarationIsPlain (p.System x body) = Unit {0}
  DeclarationIsPlain (p.TypeAlias x parameters t) = Unit {0}
  DeclarationIsPlain (p.Class x g fields) = EachPatternIsPlain g.parameters × ArePlain fields
  DeclarationIsPlain (p.NamedObject x fields) = ArePlain fields
  DeclarationIsPlain (p.Evaluate a) = IsPlain a
