-- The rules of written types fail at numbers of the types.
use Rattle.std.proofs.Common.{◌<◌, ℕ, List, [], ◌∷◌, map, Option, Some, None}
use Rattle.std.specs.Prelude.{is_some, nat_eq}
use Rattle.mo_syntax.specs.Parts.{Each, Within}
use Rattle.mo_syntax.specs.declared.types.Sharing.TheVariants as sharing
use Rattle.typing_rules.specs.AbstractSyntax.{Named, TypeNode, TypeNodes, TypeFields, TypeParameter}
use Rattle.typing_rules.specs.AbstractSyntax as p
use Rattle.typing_rules.specs.Definitions.{Definitions, definition_at, reached}
use Rattle.typing_rules.specs.Groups.{keeps_parameters}
use Rattle.typing_rules.specs.Heads.{head}
use Rattle.typing_rules.specs.Judgements.{IsShareable}
use Rattle.typing_rules.specs.Terms.{Term}
use Rattle.typing_rules.specs.TypeScopes.{TypeScope, type_named, term}
use Rattle.typing_rules.specs.Types.{count_types, arity, is_shared_function, AllShareable, Proper, EachProper, FieldsProper, MethodsProper, Reads, ReadsEach, ReadsOr, Defines, ends, Generics}
use Rattle.fault_places.specs.Numbers.{TypeBelow, TypesBelow, TypeFieldsBelow, ParameterBelow}
use Rattle.fault_places.proofs.Failing.{FailsBelow, gives, fails, meets, part, tests, needs_each}

module _ (n : ℕ) where
  pub shareable : (at : ℕ) (us : List Term) (r : Term) → at < n → FailsBelow n (AllShareable at us r)
  shareable at us r h = needs_each n _ _ (map IsShareable (r ∷ us)) _ h (gives n tt)

  module _ (defs : Definitions) where
    mutual
      pub proper : (s : TypeScope) (a : TypeNode) → TypeBelow n a → FailsBelow n (Proper defs s a)
      proper s (p.node at (p.Function sharing.Local parameters r)) h = part n _ _ (each_proper s parameters h.1.0) (λ _. proper s r h.1.1)
      proper s (p.node at (p.Function _ parameters (p.node inner (p.Async r)))) h =
          part n _ _ (each_proper s parameters h.1.0) (λ _. part n _ _ (proper s r h.1.1.1) (λ _. shareable at _ _ h.0))
      proper s (p.node at (p.Function _ parameters r)) h = fails n _ _ at h.0
      proper s (p.node at (p.Optional a)) h = proper s a h.1
      proper s (p.node at (p.Async a)) h = fails n _ _ at h.0
      proper s (p.node at (p.Use x arguments)) h = tests n _ at (nat_eq (count_types arguments) (arity (type_named s x))) _ h.0 (each_proper s arguments h.1)
      proper s (p.node at (p.Tuple items)) h = each_proper s items h.1
      proper s (p.node at (p.Array mutable a)) h = proper s a h.1
      proper s (p.node at (p.Object fields)) h = fields_proper s fields h.1
      proper s (p.node at (p.Variant tags)) h = fields_proper s tags h.1
      proper s (p.node at (p.Actor methods)) h = methods_proper s methods h.1

      each_proper : (s : TypeScope) (us : TypeNodes) → TypesBelow n us → FailsBelow n (EachProper defs s us)
      each_proper s p.Nil h = gives n tt
      each_proper s (p.Cons a rest) h = part n _ _ (proper s a h.0) (λ _. each_proper s rest h.1)

      fields_proper : (s : TypeScope) (fs : TypeFields) → TypeFieldsBelow n fs → FailsBelow n (FieldsProper defs s fs)
      fields_proper s p.NoFields h = gives n tt
      fields_proper s (p.Field mutable x a rest) h = part n _ _ (proper s a h.1) (λ _. fields_proper s rest h.2)
      fields_proper s (p.EmptyTag x rest) h = fields_proper s rest h.1

      methods_proper : (s : TypeScope) (fs : TypeFields) → TypeFieldsBelow n fs → FailsBelow n (MethodsProper defs s fs)
      methods_proper s p.NoFields h = gives n tt
      methods_proper s (p.Field mutable x a rest) h =
          part n _ _ (proper s a h.1) (λ _. tests n _ x.at (is_shared_function (head defs (term s a))) _ h.0 (methods_proper s rest h.2))
      methods_proper s (p.EmptyTag x rest) h = methods_proper s rest h.1

    pub reads : (s : TypeScope) (a : TypeNode) → TypeBelow n a → FailsBelow n (Reads defs s a)
    reads s a h = part n _ _ (proper s a h) (λ _. meets n _ _ (gives n _))

    pub reads_each : (s : TypeScope) (us : List TypeNode) → Each (TypeBelow n) us → FailsBelow n (ReadsEach defs s us)
    reads_each s [] h = gives n []
    reads_each s (a ∷ rest) h = part n _ _ (reads s a h.0) (λ v. part n _ _ (reads_each s rest h.1) (λ vs. gives n _))

    pub reads_or : (s : TypeScope) (a : Option TypeNode) (u : Term) → Within (TypeBelow n) a → FailsBelow n (ReadsOr defs s a u)
    reads_or s None u h = gives n u
    reads_or s (Some a) u h = reads s a h

    pub defines : (x : Named) → x.at < n → FailsBelow n (Defines defs x)
    defines x h =
        tests n _ x.at (is_some (reached defs.types x.at)) _ h
        (tests n _ x.at (keeps_parameters defs.types (definition_at defs.types x.at)) _ h (gives n tt))

    pub generics_fine : (s : TypeScope) (gs : List TypeParameter) → Each (ParameterBelow n) gs → FailsBelow n (Generics defs s gs)
    generics_fine s [] h = gives n tt
    generics_fine s (g ∷ rest) h =
        part n _ _ (reads_or s g.bound _ h.0.1) (λ _. tests n _ g.name.at (ends defs g.name.at) _ h.0.0 (meets n _ _ (generics_fine s rest h.1)))
