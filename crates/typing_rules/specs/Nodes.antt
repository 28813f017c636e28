-- How many nodes a program has: one for each expression but parentheses around one thing, each pattern and type likewise, each declaration, and each field of
-- an object, a type or a pattern.
use Rattle.std.specs.Prelude.{ℕ, suc, ◌+◌, List, [], ◌∷◌, Option, Some, None}
use Rattle.typing_rules.specs.AbstractSyntax.{TypeNode, TypeNodes, TypeFields, TypeParameter, Pattern, Patterns, PatternFields, Signature, Expression, Expressions, Cases, ObjectFields, Declaration, Declarations, Program}
use Rattle.typing_rules.specs.AbstractSyntax as p

abbrev mutual
  pub in_type : TypeNode → ℕ
  in_type (p.node at (p.Function sharing parameters r)) = suc (in_types parameters + in_type r)
  in_type (p.node at (p.Optional a)) = suc (in_type a)
  in_type (p.node at (p.Async a)) = suc (in_type a)
  in_type (p.node at (p.Use x arguments)) = suc (in_types arguments)
  in_type (p.node at (p.Tuple items)) = suc (in_types items)
  in_type (p.node at (p.Array mutable a)) = suc (in_type a)
  in_type (p.node at (p.Object fields)) = suc (in_type_fields fields)
  in_type (p.node at (p.Variant tags)) = suc (in_type_fields tags)
  in_type (p.node at (p.Actor methods)) = suc (in_type_fields methods)

  pub in_types : TypeNodes → ℕ
  in_types p.Nil = 0
  in_types (p.Cons a rest) = in_type a + in_types rest

  pub in_type_fields : TypeFields → ℕ
  in_type_fields p.NoFields = 0
  in_type_fields (p.Field mutable x a rest) = suc (in_type a + in_type_fields rest)
  in_type_fields (p.EmptyTag x rest) = suc (in_type_fields rest)

abbrev pub in_annotation : Option TypeNode → ℕ
in_annotation None = 0
in_annotation (Some a) = in_type a

abbrev pub in_arguments : List TypeNode → ℕ
in_arguments [] = 0
in_arguments (a ∷ rest) = in_type a + in_arguments rest

abbrev pub in_type_arguments : Option (List TypeNode) → ℕ
in_type_arguments None = 0
in_type_arguments (Some types) = in_arguments types

abbrev pub in_generics : List TypeParameter → ℕ
in_generics [] = 0
in_generics (g ∷ rest) = in_annotation g.bound + in_generics rest

abbrev mutual
  pub in_pattern : {N : Type 0} → Pattern N → ℕ
  in_pattern (p.pattern at (p.Annotated q a)) = suc (in_pattern q + in_type a)
  in_pattern (p.pattern at (p.Alternative q r)) = suc (in_pattern q + in_pattern r)
  in_pattern (p.pattern at (p.Optional q)) = suc (in_pattern q)
  in_pattern (p.pattern at (p.Tag x)) = 1
  in_pattern (p.pattern at (p.Tagged x q)) = suc (in_pattern q)
  in_pattern (p.pattern at (p.Variable x)) = 1
  in_pattern (p.pattern at p.Wildcard) = 1
  in_pattern (p.pattern at (p.Constant minus l)) = 1
  in_pattern (p.pattern at (p.Tuple items)) = suc (in_patterns items)
  in_pattern (p.pattern at (p.Object fields)) = suc (in_pattern_fields fields)

  pub in_patterns : {N : Type 0} → Patterns N → ℕ
  in_patterns p.Nil = 0
  in_patterns (p.Cons q rest) = in_pattern q + in_patterns rest

  pub in_pattern_fields : {N : Type 0} → PatternFields N → ℕ
  in_pattern_fields p.NoFields = 0
  in_pattern_fields (p.Field x q rest) = suc (in_pattern q + in_pattern_fields rest)

abbrev pub in_context : {N : Type 0} → Option (Pattern N) → ℕ
in_context None = 0
in_context (Some q) = in_pattern q

abbrev pub in_signature : {N : Type 0} → Signature N → ℕ
in_signature g = in_generics g.generics + in_patterns g.parameters + in_annotation g.result

abbrev mutual
  pub in_expression : {N : Type 0} → Expression N → ℕ
  in_expression (p.exp at (p.Constant l)) = 1
  in_expression (p.exp at (p.Name x)) = 1
  in_expression (p.exp at (p.Tuple items)) = suc (in_each items)
  in_expression (p.exp at (p.Optional a)) = suc (in_expression a)
  in_expression (p.exp at (p.Tag x)) = 1
  in_expression (p.exp at (p.Tagged x a)) = suc (in_expression a)
  in_expression (p.exp at (p.Array mutable items)) = suc (in_each items)
  in_expression (p.exp at (p.Object fields)) = suc (in_fields fields)
  in_expression (p.exp at (p.Member a x)) = suc (in_expression a)
  in_expression (p.exp at (p.Projection a i)) = suc (in_expression a)
  in_expression (p.exp at (p.Index a i)) = suc (in_expression a + in_expression i)
  in_expression (p.exp at (p.Annotated a u)) = suc (in_expression a + in_type u)
  in_expression (p.exp at (p.Negative a)) = suc (in_expression a)
  in_expression (p.exp at (p.Binary o a b)) = suc (in_expression a + in_expression b)
  in_expression (p.exp at (p.Not a)) = suc (in_expression a)
  in_expression (p.exp at (p.Assign q a)) = suc (in_expression q + in_expression a)
  in_expression (p.exp at (p.AssignBy o q a)) = suc (in_expression q + in_expression a)
  in_expression (p.exp at (p.Call f types arguments)) = suc (in_expression f + in_type_arguments types + in_each arguments)
  in_expression (p.exp at (p.When c a)) = suc (in_expression c + in_expression a)
  in_expression (p.exp at (p.If c a b)) = suc (in_expression c + in_expression a + in_expression b)
  in_expression (p.exp at (p.Switch a cases)) = suc (in_expression a + in_cases cases)
  in_expression (p.exp at (p.Try a q b)) = suc (in_expression a + in_pattern q + in_expression b)
  in_expression (p.exp at (p.While c a)) = suc (in_expression c + in_expression a)
  in_expression (p.exp at (p.Loop a)) = suc (in_expression a)
  in_expression (p.exp at (p.LoopWhile a c)) = suc (in_expression a + in_expression c)
  in_expression (p.exp at (p.For q a b)) = suc (in_pattern q + in_expression a + in_expression b)
  in_expression (p.exp at (p.Label x u a)) = suc (in_annotation u + in_expression a)
  in_expression (p.exp at (p.Break x)) = 1
  in_expression (p.exp at (p.BreakWith x a)) = suc (in_expression a)
  in_expression (p.exp at (p.Continue x)) = 1
  in_expression (p.exp at p.Return) = 1
  in_expression (p.exp at (p.ReturnWith a)) = suc (in_expression a)
  in_expression (p.exp at (p.Throw a)) = suc (in_expression a)
  in_expression (p.exp at (p.Do a)) = suc (in_expression a)
  in_expression (p.exp at (p.DoOption a)) = suc (in_expression a)
  in_expression (p.exp at (p.Bang a)) = suc (in_expression a)
  in_expression (p.exp at (p.Block ds)) = suc (in_list ds)
  in_expression (p.exp at (p.Function g body)) = suc (in_signature g + in_expression body)
  in_expression (p.exp at (p.ObjectBlock fields)) = suc (in_list fields)
  in_expression (p.exp at (p.Assert a)) = suc (in_expression a)
  in_expression (p.exp at (p.Ignore a)) = suc (in_expression a)
  in_expression (p.exp at (p.Debug a)) = suc (in_expression a)
  in_expression (p.exp at (p.ActorReference x)) = 1
  in_expression (p.exp at (p.Await a)) = suc (in_expression a)
  in_expression (p.exp at (p.BuiltIn m)) = 1
  in_expression (p.exp at (p.Subsumed a)) = in_expression a

  pub in_each : {N : Type 0} → Expressions N → ℕ
  in_each p.Nil = 0
  in_each (p.Cons a rest) = in_expression a + in_each rest

  -- a case is no node
  pub in_cases : {N : Type 0} → Cases N → ℕ
  in_cases p.NoCases = 0
  in_cases (p.Case q a rest) = in_pattern q + in_expression a + in_cases rest

  pub in_fields : {N : Type 0} → ObjectFields N → ℕ
  in_fields p.NoFields = 0
  in_fields (p.Field mutable x u a rest) = suc (in_annotation u + in_expression a + in_fields rest)

  pub in_list : {N : Type 0} → Declarations N → ℕ
  in_list p.End = 0
  in_list (p.Then public n d rest) = suc (in_declaration d + in_list rest)

  pub in_declaration : {N : Type 0} → Declaration N → ℕ
  in_declaration (p.Let q a) = in_pattern q + in_expression a
  in_declaration (p.Var stable x u a) = in_annotation u + in_expression a
  in_declaration (p.Func x g body) = in_signature g + in_expression body
  in_declaration (p.Method query context x g body) = in_context context + in_signature g + in_expression body
  in_declaration (p.System x body) = in_expression body
  in_declaration (p.TypeAlias x parameters u) = in_type u
  in_declaration (p.Class x g fields) = in_signature g + in_list fields
  in_declaration (p.NamedObject x fields) = in_list fields
  in_declaration (p.Evaluate a) = in_expression a

-- of a program: the actor itself and its imports are none
abbrev pub nodes : {N : Type 0} → Program N → ℕ
nodes program = in_list program.fields
