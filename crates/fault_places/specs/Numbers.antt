-- Trees in which each number of a token is below a bound.
use Rattle.std.specs.Prelude.{◌<◌, ℕ}
use Rattle.mo_syntax.specs.Parts.{Each, Within, EachWithin}
use Rattle.typing_rules.specs.AbstractSyntax.{Named, TypeNode, TypeForm, TypeNodes, TypeFields, TypeParameter, Pattern, PatternForm, Patterns, PatternFields, Signature, Expression, Form, Expressions, Cases, ObjectFields, Declaration, Declarations, Program}
use Rattle.typing_rules.specs.AbstractSyntax as p

module _ (n : ℕ) where
  abbrev pub NameBelow : Named → Type 0
  NameBelow x = x.at < n

  abbrev mutual
    pub TypeBelow : TypeNode → Type 0
    TypeBelow (p.node at form) = (at < n) × TypeFormBelow form

    pub TypeFormBelow : TypeForm → Type 0
    TypeFormBelow (p.Function sharing parameters r) = TypesBelow parameters × TypeBelow r
    TypeFormBelow (p.Optional a) = TypeBelow a
    TypeFormBelow (p.Async a) = TypeBelow a
    TypeFormBelow (p.Use x arguments) = TypesBelow arguments
    TypeFormBelow (p.Tuple items) = TypesBelow items
    TypeFormBelow (p.Array mutable a) = TypeBelow a
    TypeFormBelow (p.Object fields) = TypeFieldsBelow fields
    TypeFormBelow (p.Variant tags) = TypeFieldsBelow tags
    TypeFormBelow (p.Actor methods) = TypeFieldsBelow methods

    pub TypesBelow : TypeNodes → Type 0
    TypesBelow p.Nil = Unit {0}
    TypesBelow (p.Cons a rest) = TypeBelow a × TypesBelow rest

    pub TypeFieldsBelow : TypeFields → Type 0
    TypeFieldsBelow p.NoFields = Unit {0}
    TypeFieldsBelow (p.Field mutable x a rest) = NameBelow x × TypeBelow a × TypeFieldsBelow rest
    TypeFieldsBelow (p.EmptyTag x rest) = NameBelow x × TypeFieldsBelow rest

  abbrev pub ParameterBelow : TypeParameter → Type 0
  ParameterBelow g = NameBelow g.name × Within TypeBelow g.bound

  abbrev mutual
    pub PatternBelow : Pattern ℕ → Type 0
    PatternBelow (p.pattern at form) = (at < n) × PatternFormBelow form

    pub PatternFormBelow : PatternForm ℕ → Type 0
    PatternFormBelow (p.Annotated q a) = PatternBelow q × TypeBelow a
    PatternFormBelow (p.Alternative q r) = PatternBelow q × PatternBelow r
    PatternFormBelow (p.Optional q) = PatternBelow q
    PatternFormBelow (p.Tag x) = Unit {0}
    PatternFormBelow (p.Tagged x q) = PatternBelow q
    PatternFormBelow (p.Variable x) = Unit {0}
    PatternFormBelow p.Wildcard = Unit {0}
    PatternFormBelow (p.Constant minus l) = Unit {0}
    PatternFormBelow (p.Tuple items) = PatternsBelow items
    PatternFormBelow (p.Object fields) = PatternFieldsBelow fields

    pub PatternsBelow : Patterns ℕ → Type 0
    PatternsBelow p.Nil = Unit {0}
    PatternsBelow (p.Cons q rest) = PatternBelow q × PatternsBelow rest

    pub PatternFieldsBelow : PatternFields ℕ → Type 0
    PatternFieldsBelow p.NoFields = Unit {0}
    PatternFieldsBelow (p.Field x q rest) = NameBelow x × PatternBelow q × PatternFieldsBelow rest

  abbrev pub SignatureBelow : Signature ℕ → Type 0
  SignatureBelow g = Each ParameterBelow g.generics × PatternsBelow g.parameters × Within TypeBelow g.result

  abbrev mutual
    pub ExpressionBelow : Expression ℕ → Type 0
    ExpressionBelow (p.exp at form) = (at < n) × FormBelow form

    pub FormBelow : Form ℕ → Type 0
    FormBelow (p.Constant l) = Unit {0}
    FormBelow (p.Name x) = Unit {0}
    FormBelow (p.Tuple items) = ExpressionsBelow items
    FormBelow (p.Optional a) = ExpressionBelow a
    FormBelow (p.Tag x) = Unit {0}
    FormBelow (p.Tagged x a) = ExpressionBelow a
    FormBelow (p.Array mutable items) = ExpressionsBelow items
    FormBelow (p.Object fields) = ObjectFieldsBelow fields
    FormBelow (p.Member a x) = ExpressionBelow a
    FormBelow (p.Projection a i) = ExpressionBelow a
    FormBelow (p.Index a i) = ExpressionBelow a × ExpressionBelow i
    FormBelow (p.Annotated a u) = ExpressionBelow a × TypeBelow u
    FormBelow (p.Negative a) = ExpressionBelow a
    FormBelow (p.Binary o a b) = ExpressionBelow a × ExpressionBelow b
    FormBelow (p.Not a) = ExpressionBelow a
    FormBelow (p.Assign q a) = ExpressionBelow q × ExpressionBelow a
    FormBelow (p.AssignBy o q a) = ExpressionBelow q × ExpressionBelow a
    FormBelow (p.Call f types arguments) = ExpressionBelow f × EachWithin TypeBelow types × ExpressionsBelow arguments
    FormBelow (p.When c a) = ExpressionBelow c × ExpressionBelow a
    FormBelow (p.If c a b) = ExpressionBelow c × ExpressionBelow a × ExpressionBelow b
    FormBelow (p.Switch a cases) = ExpressionBelow a × CasesBelow cases
    FormBelow (p.Try a q b) = ExpressionBelow a × PatternBelow q × ExpressionBelow b
    FormBelow (p.While c a) = ExpressionBelow c × ExpressionBelow a
    FormBelow (p.Loop a) = ExpressionBelow a
    FormBelow (p.LoopWhile a c) = ExpressionBelow a × ExpressionBelow c
    FormBelow (p.For q a b) = PatternBelow q × ExpressionBelow a × ExpressionBelow b
    FormBelow (p.Label x u a) = Within TypeBelow u × ExpressionBelow a
    FormBelow (p.Break x) = Unit {0}
    FormBelow (p.BreakWith x a) = ExpressionBelow a
    FormBelow (p.Continue x) = Unit {0}
    FormBelow p.Return = Unit {0}
    FormBelow (p.ReturnWith a) = ExpressionBelow a
    FormBelow (p.Throw a) = ExpressionBelow a
    FormBelow (p.Do a) = ExpressionBelow a
    FormBelow (p.DoOption a) = ExpressionBelow a
    FormBelow (p.Bang a) = ExpressionBelow a
    FormBelow (p.Block ds) = DeclarationsBelow ds
    FormBelow (p.Function g body) = SignatureBelow g × ExpressionBelow body
    FormBelow (p.ObjectBlock fields) = DeclarationsBelow fields
    FormBelow (p.Assert a) = ExpressionBelow a
    FormBelow (p.Ignore a) = ExpressionBelow a
    FormBelow (p.Debug a) = ExpressionBelow a
    FormBelow (p.ActorReference x) = Unit {0}
    FormBelow (p.Await a) = ExpressionBelow a
    FormBelow (p.BuiltIn m) = Unit {0}
    FormBelow (p.Subsumed a) = ExpressionBelow a

    pub ExpressionsBelow : Expressions ℕ → Type 0
    ExpressionsBelow p.Nil = Unit {0}
    ExpressionsBelow (p.Cons a rest) = ExpressionBelow a × ExpressionsBelow rest

    pub CasesBelow : Cases ℕ → Type 0
    CasesBelow p.NoCases = Unit {0}
    CasesBelow (p.Case q a rest) = PatternBelow q × ExpressionBelow a × CasesBelow rest

    pub ObjectFieldsBelow : ObjectFields ℕ → Type 0
    ObjectFieldsBelow p.NoFields = Unit {0}
    ObjectFieldsBelow (p.Field mutable x u a rest) = NameBelow x × Within TypeBelow u × ExpressionBelow a × ObjectFieldsBelow rest

    pub DeclarationBelow : Declaration ℕ → Type 0
    DeclarationBelow (p.Let q a) = PatternBelow q × ExpressionBelow a
    DeclarationBelow (p.Var stable x u a) = NameBelow x × Within TypeBelow u × ExpressionBelow a
    DeclarationBelow (p.Func x g body) = NameBelow x × SignatureBelow g × ExpressionBelow body
    DeclarationBelow (p.Method query context x g body) = Within PatternBelow context × NameBelow x × SignatureBelow g × ExpressionBelow body
    DeclarationBelow (p.System x body) = NameBelow x × ExpressionBelow body
    DeclarationBelow (p.TypeAlias x parameters u) = NameBelow x × Each NameBelow parameters × TypeBelow u
    DeclarationBelow (p.Class x g fields) = NameBelow x × SignatureBelow g × DeclarationsBelow fields
    DeclarationBelow (p.NamedObject x fields) = NameBelow x × DeclarationsBelow fields
    DeclarationBelow (p.Evaluate a) = ExpressionBelow a

    pub DeclarationsBelow : Declarations ℕ → Type 0
    DeclarationsBelow p.End = Unit {0}
    DeclarationsBelow (p.Then public at d rest) = (at < n) × DeclarationBelow d × DeclarationsBelow rest

  abbrev pub ProgramBelow : Program ℕ → Type 0
  ProgramBelow program = DeclarationsBelow program.fields
