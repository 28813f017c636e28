-- The rules of patterns, parameters and public fields fail at numbers of them.
use Rattle.std.proofs.Common.{◌<◌, ◌||◌, ℕ, Bool, true, false, List, [], ◌∷◌, Option, Some, None}
use Rattle.std.specs.Prelude.{is_some, not}
use Rattle.std.specs.Str.{is_utf8}
use Rattle.mo_syntax.specs.Parts.{Within}
use Rattle.mo_types.specs.declared.node.Field.{Field}
use Rattle.mo_types.specs.declared.node.Node.{Node}
use Rattle.mo_types.specs.Heads.{number_of, is_bool, is_char, is_text, is_blob, is_null, opt_of, tuple_of, object_of, variant_of}
use Rattle.mo_types.specs.Sub.{find}
use Rattle.mo_values.specs.Parts.{is_in_range}
use Rattle.typing_rules.specs.AbstractSyntax.{Literal, TypeNode, Pattern, Patterns, PatternFields, Declaration, Declarations}
use Rattle.typing_rules.specs.AbstractSyntax as p
use Rattle.typing_rules.specs.DeclaredTypes.{within}
use Rattle.typing_rules.specs.Definitions.{Definitions}
use Rattle.typing_rules.specs.Heads.{head}
use Rattle.typing_rules.specs.Patterns.{signed, is_empty, LiteralStands, Stands, EachStands, FieldsStand}
use Rattle.typing_rules.specs.PublicFields.{EachAnnotated, AllAnnotated, FieldsAnnotated, PublicField, PublicFields}
use Rattle.typing_rules.specs.Signatures.{first, others, Parameters, ParameterTypes, ContextOf, AsyncResult, SignatureOf, Signatures, DefinitionOf, DefinitionsOf}
use Rattle.typing_rules.specs.Terms.{Term}
use Rattle.typing_rules.specs.TypedTrees.{pattern_place, annotation}
use Rattle.typing_rules.specs.TypeScopes.{TypeScope, with_parameters}
use Rattle.fault_places.specs.Numbers.{TypeBelow, PatternBelow, PatternsBelow, PatternFieldsBelow, DeclarationBelow, DeclarationsBelow}
use Rattle.fault_places.proofs.Failing.{FailsBelow, gives, fails, meets, part, if_so, by_case_of, given, given_of, tests, needs}
use Rattle.fault_places.proofs.Types.{shareable, proper, reads, reads_or, defines, generics_fine}

module _ (n : ℕ) where
  -- ---- patterns

  pub placed : (q : Pattern ℕ) → PatternBelow n q → pattern_place q < n
  placed (p.pattern at f) h = h.0

  pub annotated : (q : Pattern ℕ) → PatternBelow n q → Within (TypeBelow n) (annotation q)
  annotated (p.pattern at (p.Annotated q a)) h = h.1.1
  annotated (p.pattern at _) h = tt

  literal : (at : ℕ) (minus : Bool) (l : Literal) (y : Node Term) → at < n → FailsBelow n (LiteralStands at minus l y)
  literal at minus (p.Number m) y h = given n _ at (number_of y) _ h (λ k. tests n _ at (is_in_range k (signed minus m)) _ h (gives n tt))
  literal at true l y h = fails n _ _ at h
  literal at false (p.Character c) y h = tests n _ at (is_char y) _ h (gives n tt)
  literal at false (p.Text x) y h = if_so n (is_blob y) _ _ (gives n tt) (tests n _ at (is_text y) _ h (tests n _ at (is_utf8 x) _ h (gives n tt)))
  literal at false p.True y h = tests n _ at (is_bool y) _ h (gives n tt)
  literal at false p.False y h = tests n _ at (is_bool y) _ h (gives n tt)
  literal at false p.Null y h = tests n _ at (is_null y || is_some (opt_of y)) _ h (gives n tt)

  module _ (defs : Definitions) where
    module _ (s : TypeScope) where
      mutual
        pub stands : (q : Pattern ℕ) → PatternBelow n q → (u : Term) → FailsBelow n (Stands defs s q u)
        stands (p.pattern at (p.Annotated q a)) h u = part n _ _ (reads n defs s a h.1.1) (λ v. needs n _ at _ _ h.0 (part n _ _ (stands q h.1.0 v) (λ b. gives n _)))
        stands (p.pattern at (p.Alternative q r)) h u =
            part n _ _ (stands q h.1.0 u) (λ b. tests n _ at (is_empty b.0) _ h.0 (part n _ _ (stands r h.1.1 u) (λ c. tests n _ at (is_empty c.0) _ h.0 (gives n _))))
        stands (p.pattern at (p.Optional q)) h u = given n _ at (opt_of (head defs u)) _ h.0 (λ v. part n _ _ (stands q h.1 v) (λ b. gives n _))
        stands (p.pattern at (p.Tag x)) h u =
            given n _ at (variant_of (head defs u)) _ h.0 (λ tags. given n _ at (find x tags) _ h.0 (λ f.
            given n _ at (tuple_of (head defs f.part)) _ h.0 (λ parts. tests n _ at (is_empty parts) _ h.0 (gives n _))))
        stands (p.pattern at (p.Tagged x q)) h u =
            given n _ at (variant_of (head defs u)) _ h.0 (λ tags. given n _ at (find x tags) _ h.0 (λ f. part n _ _ (stands q h.1 f.part) (λ b. gives n _)))
        stands (p.pattern at (p.Variable x)) h u = gives n _
        stands (p.pattern at p.Wildcard) h u = gives n _
        stands (p.pattern at (p.Constant minus l)) h u = part n _ _ (literal at minus l (head defs u) h.0) (λ _. gives n _)
        stands (p.pattern at (p.Tuple items)) h u = given n _ at (tuple_of (head defs u)) _ h.0 (λ parts. part n _ _ (each_stands at items h.0 h.1 parts) (λ b. gives n _))
        stands (p.pattern at (p.Object fields)) h u = given n _ at (object_of (head defs u)) _ h.0 (λ fs. part n _ _ (fields_stand fields h.1 fs) (λ b. gives n _))

        each_stands : (at : ℕ) (qs : Patterns ℕ) → at < n → PatternsBelow n qs → (us : List Term) → FailsBelow n (EachStands defs s at qs us)
        each_stands at p.Nil h i [] = gives n _
        each_stands at p.Nil h i (u ∷ us) = fails n _ _ at h
        each_stands at (p.Cons q rest) h i [] = fails n _ _ at h
        each_stands at (p.Cons q rest) h i (u ∷ us) = part n _ _ (stands q i.0 u) (λ b. part n _ _ (each_stands at rest h i.1 us) (λ c. gives n _))

        fields_stand : (qs : PatternFields ℕ) → PatternFieldsBelow n qs → (fs : List (Field Term)) → FailsBelow n (FieldsStand defs s qs fs)
        fields_stand p.NoFields h fs = gives n _
        fields_stand (p.Field x q rest) h fs =
            given n _ x.at (find x.bytes fs) _ h.0 (λ f. tests n _ x.at (not f.mutable) _ h.0
            (part n _ _ (stands q h.1 f.part) (λ b. part n _ _ (fields_stand rest h.2 fs) (λ c. gives n _))))

    -- ---- parameters and signatures

    pub parameters : (s : TypeScope) (qs : Patterns ℕ) → PatternsBelow n qs → (us : List Term) → FailsBelow n (Parameters defs s qs us)
    parameters s p.Nil h us = gives n _
    parameters s (p.Cons q rest) h us =
        part n _ _
        (by_case_of n (TypeBelow n) (annotation q) _ _ (annotated q h.0) (λ a i. reads n defs s a i) (given n _ (pattern_place q) (first us) _ (placed q h.0) (λ u. gives n u))) (λ u.
        part n _ _ (stands s q h.0 u) (λ b. part n _ _ (parameters s rest h.1 (others us)) (λ c. gives n _)))

    parameter_types : (s : TypeScope) (qs : Patterns ℕ) → PatternsBelow n qs → FailsBelow n (ParameterTypes defs s qs)
    parameter_types s p.Nil h = gives n _
    parameter_types s (p.Cons q rest) h =
        part n _ _ (given_of n (TypeBelow n) _ (pattern_place q) (annotation q) _ (annotated q h.0) (placed q h.0) (λ a i. reads n defs s a i)) (λ u.
        part n _ _ (parameter_types s rest h.1) (λ us. gives n _))

    pub context_of : (s : TypeScope) (q : Option (Pattern ℕ)) → Within (PatternBelow n) q → FailsBelow n (ContextOf defs s q)
    context_of s None h = gives n _
    context_of s (Some q) h = meets n _ _ (part n _ _ (stands s q h _) (λ b. gives n _))

    async_result : (at : ℕ) (s : TypeScope) (a : Option TypeNode) → at < n → Within (TypeBelow n) a → FailsBelow n (AsyncResult defs at s a)
    async_result at s (Some (p.node inner (p.Async a))) h i = reads n defs s a i.1
    async_result at s _ h i = fails n _ _ at h

    signature_of : (s : TypeScope) (d : Declaration ℕ) → DeclarationBelow n d → FailsBelow n (SignatureOf defs s d)
    signature_of s (p.Func x g body) h =
        part n _ _ (generics_fine n defs (within s g) g.generics h.1.0) (λ _. part n _ _ (parameter_types (within s g) g.parameters h.1.1) (λ us.
        part n _ _ (reads_or n defs (within s g) g.result _ h.1.2) (λ r. meets n _ _ (gives n _))))
    signature_of s (p.Class x g fields) h =
        part n _ _ (generics_fine n defs (within s g) g.generics h.1.0) (λ _. part n _ _ (parameter_types (within s g) g.parameters h.1.1) (λ us. meets n _ _ (gives n _)))
    signature_of s (p.Method query context x g body) h =
        part n _ _ (parameter_types s g.parameters h.2.1) (λ us. part n _ _ (async_result x.at s g.result h.1 h.2.2) (λ r.
        part n _ _ (shareable n x.at us r h.1) (λ _. meets n _ _ (gives n _))))
    signature_of s _ h = gives n _

    pub signatures : (s : TypeScope) (ds : Declarations ℕ) → DeclarationsBelow n ds → FailsBelow n (Signatures defs s ds)
    signatures s p.End h = gives n _
    signatures s (p.Then public at d rest) h = part n _ _ (signature_of s d h.1) (λ one. part n _ _ (signatures s rest h.2) (λ more. gives n _))

    definition_of : (s : TypeScope) (d : Declaration ℕ) → DeclarationBelow n d → FailsBelow n (DefinitionOf defs s d)
    definition_of s (p.TypeAlias x parameters a) h = part n _ _ (proper n defs (with_parameters s parameters) a h.2) (λ _. defines n defs x h.0)
    definition_of s (p.Class x g fields) h = defines n defs x h.0
    definition_of s _ h = gives n _

    pub definitions_of : (s : TypeScope) (ds : Declarations ℕ) → DeclarationsBelow n ds → FailsBelow n (DefinitionsOf defs s ds)
    definitions_of s p.End h = gives n _
    definitions_of s (p.Then public at d rest) h = part n _ _ (definition_of s d h.1) (λ _. definitions_of s rest h.2)

  -- ---- public fields

  mutual
    each_annotated : (q : Pattern ℕ) → PatternBelow n q → FailsBelow n (EachAnnotated q)
    each_annotated (p.pattern at (p.Annotated (p.pattern inner (p.Variable x)) a)) h = gives n tt
    each_annotated (p.pattern at (p.Annotated q a)) h = each_annotated q h.1.0
    each_annotated (p.pattern at (p.Alternative q r)) h = gives n tt
    each_annotated (p.pattern at (p.Optional q)) h = each_annotated q h.1
    each_annotated (p.pattern at (p.Tag x)) h = gives n tt
    each_annotated (p.pattern at (p.Tagged x q)) h = each_annotated q h.1
    each_annotated (p.pattern at (p.Variable x)) h = fails n _ _ at h.0
    each_annotated (p.pattern at p.Wildcard) h = gives n tt
    each_annotated (p.pattern at (p.Constant minus l)) h = gives n tt
    each_annotated (p.pattern at (p.Tuple items)) h = all_annotated items h.1
    each_annotated (p.pattern at (p.Object fields)) h = fields_annotated fields h.1

    all_annotated : (qs : Patterns ℕ) → PatternsBelow n qs → FailsBelow n (AllAnnotated qs)
    all_annotated p.Nil h = gives n tt
    all_annotated (p.Cons q rest) h = part n _ _ (each_annotated q h.0) (λ _. all_annotated rest h.1)

    fields_annotated : (qs : PatternFields ℕ) → PatternFieldsBelow n qs → FailsBelow n (FieldsAnnotated qs)
    fields_annotated p.NoFields h = gives n tt
    fields_annotated (p.Field x q rest) h = part n _ _ (each_annotated q h.1) (λ _. fields_annotated rest h.2)

  public_field : (d : Declaration ℕ) → DeclarationBelow n d → FailsBelow n (PublicField d)
  public_field (p.Let q a) h = each_annotated q h.0
  public_field (p.Var stable x u a) h = given n _ x.at u _ h.0 (λ _. gives n tt)
  public_field (p.Func x g body) h = tests n _ x.at (is_empty g.generics) _ h.0 (gives n tt)
  public_field (p.Class x g fields) h = tests n _ x.at (is_empty g.generics) _ h.0 (gives n tt)
  public_field (p.NamedObject x fields) h = fails n _ _ x.at h.0
  public_field _ h = gives n tt

  pub public_fields : (ds : Declarations ℕ) → DeclarationsBelow n ds → FailsBelow n (PublicFields ds)
  public_fields p.End h = gives n tt
  public_fields (p.Then true at d rest) h = part n _ _ (public_field d h.1) (λ _. public_fields rest h.2)
  public_fields (p.Then false at d rest) h = public_fields rest h.2
