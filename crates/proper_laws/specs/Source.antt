-- What the front end sees to in types and patterns that are written, at each of their nodes: their abstract syntax (tuples, tags and methods), the rules on
-- names (labels) and the lexer (names of methods).
use Rattle.std.specs.Prelude.{◌≡◌, ◌≢◌, ℕ, true, false, List, [], ◌∷◌, map, Option, Some, None}
use Rattle.mo_types.specs.Label.{label_id}
use Rattle.mo_types.specs.Sub.{Each}
use Rattle.mo_types.specs.Values.{is_method_name}
use Rattle.typed_tree.specs.OperationTypes.{Distinct}
use Rattle.typing_rules.specs.AbstractSyntax.{Bytes, TypeNode, TypeNodes, TypeFields, Pattern, Patterns, PatternFields, Signature}
use Rattle.typing_rules.specs.AbstractSyntax as p
use Rattle.typing_rules.specs.Types.{count_types}

abbrev pub labels_of : TypeFields → List Bytes
labels_of p.NoFields = []
labels_of (p.Field mutable x a rest) = x.bytes ∷ labels_of rest
labels_of (p.EmptyTag x rest) = x.bytes ∷ labels_of rest

-- the numbers of labels differ
abbrev pub DifferAsLabels : List Bytes → Type 0
DifferAsLabels xs = Distinct (map label_id xs)

-- tags are no `var` fields, by the abstract syntax
abbrev pub AreTags : TypeFields → Type 0
AreTags p.NoFields = Unit {0}
AreTags (p.Field mutable x a rest) = (mutable ≡ false) × AreTags rest
AreTags (p.EmptyTag x rest) = AreTags rest

-- methods neither, and each has a type; by the lexer its name is one of a method
abbrev pub AreMethods : TypeFields → Type 0
AreMethods p.NoFields = Unit {0}
AreMethods (p.Field mutable x a rest) = (mutable ≡ false) × (is_method_name x.bytes ≡ true) × AreMethods rest
AreMethods (p.EmptyTag x rest) = ⊥

abbrev mutual
  -- By the abstract syntax one type in parentheses is no tuple. By the rules on names labels differ.
  pub IsTypeSource : TypeNode → Type 0
  IsTypeSource (p.node at (p.Function sharing ps r)) = AreTypesSource ps × IsTypeSource r
  IsTypeSource (p.node at (p.Optional a)) = IsTypeSource a
  IsTypeSource (p.node at (p.Async a)) = IsTypeSource a
  IsTypeSource (p.node at (p.Use x us)) = AreTypesSource us
  IsTypeSource (p.node at (p.Tuple us)) = AreTypesSource us × (count_types us ≢ 1)
  IsTypeSource (p.node at (p.Array mutable a)) = IsTypeSource a
  IsTypeSource (p.node at (p.Object fs)) = AreFieldsSource fs × DifferAsLabels (labels_of fs)
  IsTypeSource (p.node at (p.Variant fs)) = AreFieldsSource fs × DifferAsLabels (labels_of fs) × AreTags fs
  IsTypeSource (p.node at (p.Actor fs)) = AreFieldsSource fs × DifferAsLabels (labels_of fs) × AreMethods fs

  pub AreTypesSource : TypeNodes → Type 0
  AreTypesSource p.Nil = Unit {0}
  AreTypesSource (p.Cons a rest) = IsTypeSource a × AreTypesSource rest

  pub AreFieldsSource : TypeFields → Type 0
  AreFieldsSource p.NoFields = Unit {0}
  AreFieldsSource (p.Field mutable x a rest) = IsTypeSource a × AreFieldsSource rest
  AreFieldsSource (p.EmptyTag x rest) = AreFieldsSource rest

abbrev pub IsAnnotationSource : Option TypeNode → Type 0
IsAnnotationSource None = Unit {0}
IsAnnotationSource (Some a) = IsTypeSource a

abbrev mutual
  -- the types that are written in a pattern are such
  pub IsPatternSource : Pattern ℕ → Type 0
  IsPatternSource (p.pattern n (p.Annotated q a)) = IsPatternSource q × IsTypeSource a
  IsPatternSource (p.pattern n (p.Alternative q r)) = IsPatternSource q × IsPatternSource r
  IsPatternSource (p.pattern n (p.Optional q)) = IsPatternSource q
  IsPatternSource (p.pattern n (p.Tagged x q)) = IsPatternSource q
  IsPatternSource (p.pattern n (p.Tuple items)) = ArePatternsSource items
  IsPatternSource (p.pattern n (p.Object fields)) = ArePatternFieldsSource fields
  IsPatternSource (p.pattern n _) = Unit {0}

  pub ArePatternsSource : Patterns ℕ → Type 0
  ArePatternsSource p.Nil = Unit {0}
  ArePatternsSource (p.Cons q rest) = IsPatternSource q × ArePatternsSource rest

  pub ArePatternFieldsSource : PatternFields ℕ → Type 0
  ArePatternFieldsSource p.NoFields = Unit {0}
  ArePatternFieldsSource (p.Field x q rest) = IsPatternSource q × ArePatternFieldsSource rest

-- so are those of a signature
abbrev pub IsSignatureSource : Signature ℕ → Type 0
IsSignatureSource g = Each (λ x. IsAnnotationSource x.bound) g.generics × ArePatternsSource g.parameters × IsAnnotationSource g.result
