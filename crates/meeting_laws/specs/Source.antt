-- What the front end sees to in the source of a program, at each node, for its types to be lawful.
use Rattle.std.specs.Prelude.{◌≡◌, ◌≢◌, ℕ, true, false, List, [], ◌∷◌, ◌++◌, Option, Some, None}
use Rattle.mo_types.specs.Sub.{Each}
use Rattle.mo_types.specs.Values.{is_method_name}
use Rattle.typing_rules.specs.AbstractSyntax.{Bytes, TypeNode, Pattern, Expression, Expressions, Cases, ObjectFields, Declaration, Declarations, Program}
use Rattle.typing_rules.specs.AbstractSyntax as p
use Rattle.typing_rules.specs.TypedTrees.{count}
use Rattle.desugaring.specs.FreeNames.{field_names}
use Rattle.proper_laws.specs.Source.{DifferAsLabels, IsTypeSource, IsAnnotationSource, IsPatternSource, IsSignatureSource}

abbrev pub labels_in : {N : Type 0} → ObjectFields N → List Bytes
labels_in p.NoFields = []
labels_in (p.Field mutable x u a rest) = x.bytes ∷ labels_in rest

-- the fields that public declarations give an object
abbrev pub public_labels : {N : Type 0} → Declarations N → List Bytes
public_labels p.End = []
public_labels (p.Then true n d rest) = field_names d ++ public_labels rest
public_labels (p.Then false n d rest) = public_labels rest

-- the methods of an actor
abbrev pub method_labels : Declarations ℕ → List Bytes
method_labels p.End = []
method_labels (p.Then public n (p.Method query context x g body) rest) = x.bytes ∷ method_labels rest
method_labels (p.Then public n d rest) = method_labels rest

abbrev pub AreArgumentsSource : Option (List TypeNode) → Type 0
AreArgumentsSource None = Unit {0}
AreArgumentsSource (Some us) = Each IsTypeSource us

abbrev pub IsContextSource : Option (Pattern ℕ) → Type 0
IsContextSource None = Unit {0}
IsContextSource (Some q) = IsPatternSource q

abbrev mutual
  -- The types that are written are as they have to be. By the abstract syntax tuples are not of one part, and a function without a name has no type parameters.
  -- By the rules on names labels of objects differ, and those of public fields of objects and classes.
  pub IsSource : Expression ℕ → Type 0
  IsSource (p.exp n (p.Constant l)) = Unit {0}
  IsSource (p.exp n (p.Name x)) = Unit {0}
  IsSource (p.exp n (p.Tuple items)) = EachIsSource items × (count items ≢ 1)
  IsSource (p.exp n (p.Optional a)) = IsSource a
  IsSource (p.exp n (p.Tag x)) = Unit {0}
  IsSource (p.exp n (p.Tagged x a)) = IsSource a
  IsSource (p.exp n (p.Array mutable items)) = EachIsSource items
  IsSource (p.exp n (p.Object fields)) = FieldsAreSource fields × DifferAsLabels (labels_in fields)
  IsSource (p.exp n (p.Member a x)) = IsSource a
  IsSource (p.exp n (p.Projection a i)) = IsSource a
  IsSource (p.exp n (p.Index a i)) = IsSource a × IsSource i
  IsSource (p.exp n (p.Annotated a u)) = IsSource a × IsTypeSource u
  IsSource (p.exp n (p.Negative a)) = IsSource a
  IsSource (p.exp n (p.Binary o a b)) = IsSource a × IsSource b
  IsSource (p.exp n (p.Not a)) = IsSource a
  IsSource (p.exp n (p.Assign q a)) = IsSource q × IsSource a
  IsSource (p.exp n (p.AssignBy o q a)) = IsSource q × IsSource a
  IsSource (p.exp n (p.Call f types arguments)) = IsSource f × AreArgumentsSource types × EachIsSource arguments
  IsSource (p.exp n (p.When c a)) = IsSource c × IsSource a
  IsSource (p.exp n (p.If c a b)) = IsSource c × IsSource a × IsSource b
  IsSource (p.exp n (p.Switch a cases)) = IsSource a × CasesAreSource cases
  IsSource (p.exp n (p.Try a q b)) = IsSource a × IsPatternSource q × IsSource b
  IsSource (p.exp n (p.While c a)) = IsSource c × IsSource a
  IsSource (p.exp n (p.Loop a)) = IsSource a
  IsSource (p.exp n (p.LoopWhile a c)) = IsSource a × IsSource c
  IsSource (p.exp n (p.For q a b)) = IsPatternSource q × IsSource a × IsSource b
  IsSource (p.exp n (p.Label x u a)) = IsAnnotationSource u × IsSource a
  IsSource (p.exp n (p.Break x)) = Unit {0}
  IsSource (p.exp n (p.BreakWith x a)) = IsSource a
  IsSource (p.exp n (p.Continue x)) = Unit {0}
  IsSource (p.exp n p.Return) = Unit {0}
  IsSource (p.exp n (p.ReturnWith a)) = IsSource a
  IsSource (p.exp n (p.Throw a)) = IsSource a
  IsSource (p.exp n (p.Do a)) = IsSource a
  IsSource (p.exp n (p.DoOption a)) = IsSource a
  IsSource (p.exp n (p.Bang a)) = IsSource a
  IsSource (p.exp n (p.Block ds)) = AreSource ds
  IsSource (p.exp n (p.Function g body)) = (g.generics ≡ []) × IsSignatureSource g × IsSource body
  IsSource (p.exp n (p.ObjectBlock fields)) = AreSource fields × DifferAsLabels (public_labels fields)
  IsSource (p.exp n (p.Assert a)) = IsSource a
  IsSource (p.exp n (p.Ignore a)) = IsSource a
  IsSource (p.exp n (p.Debug a)) = IsSource a
  IsSource (p.exp n (p.ActorReference x)) = Unit {0}
  IsSource (p.exp n (p.Await a)) = IsSource a
  IsSource (p.exp n (p.BuiltIn m)) = Unit {0}
  IsSource (p.exp n (p.Subsumed a)) = IsSource a

  pub EachIsSource : Expressions ℕ → Type 0
  EachIsSource p.Nil = Unit {0}
  EachIsSource (p.Cons a rest) = IsSource a × EachIsSource rest

  pub CasesAreSource : Cases ℕ → Type 0
  CasesAreSource p.NoCases = Unit {0}
  CasesAreSource (p.Case q a rest) = IsPatternSource q × IsSource a × CasesAreSource rest

  pub FieldsAreSource : ObjectFields ℕ → Type 0
  FieldsAreSource p.NoFields = Unit {0}
  FieldsAreSource (p.Field mutable x u a rest) = IsAnnotationSource u × IsSource a × FieldsAreSource rest

  pub AreSource : Declarations ℕ → Type 0
  AreSource p.End = Unit {0}
  AreSource (p.Then public n d rest) = DeclarationIsSource d × AreSource rest

  pub DeclarationIsSource : Declaration ℕ → Type 0
  DeclarationIsSource (p.Let q a) = IsPatternSource q × IsSource a
  DeclarationIsSource (p.Var stable x u a) = IsAnnotationSource u × IsSource a
  DeclarationIsSource (p.Func x g body) = IsSignatureSource g × IsSource body
  DeclarationIsSource (p.Method query context x g body) = IsContextSource context × IsSignatureSource g × IsSource body
  DeclarationIsSource (p.System x body) = IsSource body
  DeclarationIsSource (p.TypeAlias x parameters u) = IsTypeSource u
  DeclarationIsSource (p.Class x g fields) = IsSignatureSource g × AreSource fields × DifferAsLabels (public_labels fields)
  DeclarationIsSource (p.NamedObject x fields) = AreSource fields × DifferAsLabels (public_labels fields)
  DeclarationIsSource (p.Evaluate a) = IsSource a

pub record IsProgramSource (program : Program ℕ) : Type 0 where
  pub fields : AreSource program.fields
  -- by the rules on names
  pub labels : DifferAsLabels (method_labels program.fields)
  -- by the lexer
  pub names : Each (λ x. is_method_name x ≡ true) (method_labels program.fields)
