-- The types of public fields mention only type parameters in scope.
use Rattle.std.proofs.Common.{◌≡◌, ℕ, true, false, List, [], ◌∷◌, map, Option, Some, None, sym, subst}
use Rattle.mo_types.specs.Sub.{Each}
use Rattle.typed_tree.specs.Instances.{IsAmong}
use Rattle.typing_rules.specs.AbstractSyntax.{Bytes, Named, TypeNode, Pattern, Patterns, PatternFields, Signature, Declaration, Declarations}
use Rattle.typing_rules.specs.AbstractSyntax as p
use Rattle.typing_rules.specs.DeclaredTypes.{pattern_term, parameter_terms, function_term, class_type, class_term, pattern_fields, patterns_fields, fields_fields, declared_fields, member_fields}
use Rattle.typing_rules.specs.Terms.{Term, Fields, unlisted}
use Rattle.typing_rules.specs.Terms as t
use Rattle.typing_rules.specs.TypeScopes.{TypeName, TypeScope, type_named, with_parameters, names_of, term_or}
use Rattle.desugaring_laws.specs.Scopes.{IsIn, AreIn, FieldsAreIn, IsNameIn}
use Rattle.desugaring_laws.proofs.Scoping.{written_in}
use Rattle.scope_laws.specs.Gathers.{IsPlainField, ArePlainFields}

module _ (vs : List ℕ) (s : TypeScope) (names : (x : Bytes) (d : TypeName) → type_named s x ≡ Some d → IsNameIn vs d) (parameters : Each (λ v. IsAmong v vs) s.parameters) where
  pub or_in : (o : Option TypeNode) (u : Term) → IsIn vs u → IsIn vs (term_or s o u)
  or_in None u h = h
  or_in (Some a) u h = written_in vs s names a

  pattern_in : (q : Pattern ℕ) → IsIn vs (pattern_term s q)
  pattern_in (p.pattern n (p.Annotated q a)) = written_in vs s names a
  pattern_in (p.pattern n (p.Alternative q r)) = tt
  pattern_in (p.pattern n (p.Optional q)) = tt
  pattern_in (p.pattern n (p.Tag x)) = tt
  pattern_in (p.pattern n (p.Tagged x q)) = tt
  pattern_in (p.pattern n (p.Variable x)) = tt
  pattern_in (p.pattern n p.Wildcard) = tt
  pattern_in (p.pattern n (p.Constant minus l)) = tt
  pattern_in (p.pattern n (p.Tuple items)) = tt
  pattern_in (p.pattern n (p.Object fields)) = tt

  pub parameters_in : (qs : Patterns ℕ) → AreIn vs (parameter_terms s qs)
  parameters_in p.Nil = tt
  parameters_in (p.Cons q rest) = (pattern_in q, parameters_in rest)

  function_in : (g : Signature ℕ) → g.generics ≡ [] → IsIn vs (function_term s g)
  function_in g e =
      subst (λ gs. IsIn vs (t.Function (parameter_terms (with_parameters s (names_of gs)) g.parameters) (term_or (with_parameters s (names_of gs)) g.result t.unit))) (sym e) (parameters_in g.parameters, or_in g.result t.unit tt)

  pub each_parameter : (ps : List ℕ) → Each (λ v. IsAmong v vs) ps → AreIn vs (unlisted (map t.Parameter ps))
  each_parameter [] h = tt
  each_parameter (v ∷ ps) h = (h.0, each_parameter ps h.1)

  class_in : (x : Named) (g : Signature ℕ) → g.generics ≡ [] → IsIn vs (class_term s x g)
  class_in x g e =
      subst (λ gs. IsIn vs (t.Function (parameter_terms (with_parameters s (names_of gs)) g.parameters) (class_type (with_parameters s (names_of gs)) x))) (sym e) (parameters_in g.parameters, each_parameter s.parameters parameters)

  mutual
    fields_of_pattern : (q : Pattern ℕ) (rest : Fields) → FieldsAreIn vs rest → FieldsAreIn vs (pattern_fields s q rest)
    fields_of_pattern (p.pattern n (p.Annotated (p.pattern m (p.Variable x)) a)) rest h = (written_in vs s names a, h)
    fields_of_pattern (p.pattern n (p.Annotated (p.pattern m (p.Annotated q b)) a)) rest h = fields_of_pattern (p.pattern m (p.Annotated q b)) rest h
    fields_of_pattern (p.pattern n (p.Annotated (p.pattern m (p.Alternative q r)) a)) rest h = fields_of_pattern (p.pattern m (p.Alternative q r)) rest h
    fields_of_pattern (p.pattern n (p.Annotated (p.pattern m (p.Optional q)) a)) rest h = fields_of_pattern (p.pattern m (p.Optional q)) rest h
    fields_of_pattern (p.pattern n (p.Annotated (p.pattern m (p.Tag x)) a)) rest h = fields_of_pattern (p.pattern m (p.Tag x)) rest h
    fields_of_pattern (p.pattern n (p.Annotated (p.pattern m (p.Tagged x q)) a)) rest h = fields_of_pattern (p.pattern m (p.Tagged x q)) rest h
    fields_of_pattern (p.pattern n (p.Annotated (p.pattern m p.Wildcard) a)) rest h = fields_of_pattern (p.pattern m p.Wildcard) rest h
    fields_of_pattern (p.pattern n (p.Annotated (p.pattern m (p.Constant minus l)) a)) rest h = fields_of_pattern (p.pattern m (p.Constant minus l)) rest h
    fields_of_pattern (p.pattern n (p.Annotated (p.pattern m (p.Tuple items)) a)) rest h = fields_of_pattern (p.pattern m (p.Tuple items)) rest h
    fields_of_pattern (p.pattern n (p.Annotated (p.pattern m (p.Object fields)) a)) rest h = fields_of_pattern (p.pattern m (p.Object fields)) rest h
    fields_of_pattern (p.pattern n (p.Alternative q r)) rest h = h
    fields_of_pattern (p.pattern n (p.Optional q)) rest h = fields_of_pattern q rest h
    fields_of_pattern (p.pattern n (p.Tag x)) rest h = h
    fields_of_pattern (p.pattern n (p.Tagged x q)) rest h = fields_of_pattern q rest h
    fields_of_pattern (p.pattern n (p.Variable x)) rest h = (tt, h)
    fields_of_pattern (p.pattern n p.Wildcard) rest h = h
    fields_of_pattern (p.pattern n (p.Constant minus l)) rest h = h
    fields_of_pattern (p.pattern n (p.Tuple items)) rest h = fields_of_patterns items rest h
    fields_of_pattern (p.pattern n (p.Object fields)) rest h = fields_of_fields fields rest h

    fields_of_patterns : (qs : Patterns ℕ) (rest : Fields) → FieldsAreIn vs rest → FieldsAreIn vs (patterns_fields s qs rest)
    fields_of_patterns p.Nil rest h = h
    fields_of_patterns (p.Cons q more) rest h = fields_of_pattern q (patterns_fields s more rest) (fields_of_patterns more rest h)

    fields_of_fields : (fs : PatternFields ℕ) (rest : Fields) → FieldsAreIn vs rest → FieldsAreIn vs (fields_fields s fs rest)
    fields_of_fields p.NoFields rest h = h
    fields_of_fields (p.Field x q more) rest h = fields_of_pattern q (fields_fields s more rest) (fields_of_fields more rest h)

  declared_in : (d : Declaration ℕ) → IsPlainField d → (rest : Fields) → FieldsAreIn vs rest → FieldsAreIn vs (declared_fields s d rest)
  declared_in (p.Let q a) k rest h = fields_of_pattern q rest h
  declared_in (p.Var stable x u a) k rest h = (or_in u t.Bottom tt, h)
  declared_in (p.Func x g body) k rest h = (function_in g k, h)
  declared_in (p.Method query context x g body) k rest h = h
  declared_in (p.System x body) k rest h = h
  declared_in (p.TypeAlias x ps a) k rest h = h
  declared_in (p.Class x g fields) k rest h = (class_in x g k, h)
  declared_in (p.NamedObject x fields) k rest h = h
  declared_in (p.Evaluate a) k rest h = h

  pub members_in : (ds : Declarations ℕ) → ArePlainFields ds → FieldsAreIn vs (member_fields s ds)
  members_in p.End k = tt
  members_in (p.Then true n d rest) k = declared_in d k.0 (member_fields s rest) (members_in rest k.1)
  members_in (p.Then false n d rest) k = members_in rest k
