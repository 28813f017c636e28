-- The scope of a pattern's names, by what is written out.
use Rattle.std.proofs.Common.{◌≡◌, ℕ, List, [], ◌∷◌, ◌++◌, refl, ap₂, ◌∙◌}
use Rattle.std.specs.Prelude.{not}
use Rattle.mo_types.specs.declared.node.Field.{Field}
use Rattle.mo_types.specs.Heads.{opt_of, tuple_of, object_of, variant_of}
use Rattle.mo_types.specs.Sub.{find}
use Rattle.typing_rules.specs.AbstractSyntax.{Pattern, Patterns, PatternFields}
use Rattle.typing_rules.specs.AbstractSyntax as p
use Rattle.typing_rules.specs.Contexts.{Scope}
use Rattle.typing_rules.specs.Definitions.{Definitions}
use Rattle.typing_rules.specs.Heads.{head}
use Rattle.typing_rules.specs.Patterns.{is_empty, LiteralStands, Stands, EachStands, FieldsStand}
use Rattle.typing_rules.specs.Terms.{Term}
use Rattle.typing_rules.specs.TypedTrees.{Note}
use Rattle.typing_rules.specs.TypeScopes.{TypeScope}
use Rattle.typing_rules.specs.Types.{Reads}
use Rattle.desugaring_laws.specs.Names.{bound_names, bound_in_each, bound_in_fields, entered}
use Rattle.desugaring_laws.specs.Yields.{Yields}
use Rattle.desugaring_laws.proofs.Patterns.{beside}
use Rattle.desugaring_laws.proofs.Yielding.{anything, given, tests, part as after}

module _ (defs : Definitions) (terms : List Term) (s : TypeScope) where
  abbrev Entered : Scope × Pattern Note → Type 0
  Entered b = b.0 ≡ entered (bound_names b.1) []

  abbrev EachEntered : Scope × Patterns Note → Type 0
  EachEntered b = b.0 ≡ entered (bound_in_each b.1) []

  abbrev FieldsEntered : Scope × PatternFields Note → Type 0
  FieldsEntered b = b.0 ≡ entered (bound_in_fields b.1) []

  mutual
    pub scope_entered : (q : Pattern ℕ) (u : Term) → Yields defs terms (Stands defs s q u) Entered
    scope_entered (p.pattern at (p.Annotated q a)) u =
        after defs terms (Reads defs s a) _ (λ v. Unit {0}) Entered (anything defs terms (Reads defs s a)) (λ v t. (
          λ below. after defs terms (Stands defs s q v) _ Entered Entered (scope_entered q v) (λ b i. i),
          λ no. tt,
        ))
    scope_entered (p.pattern at (p.Alternative q r)) u =
        after defs terms (Stands defs s q u) _ Entered Entered (scope_entered q u) (λ b i.
        tests defs terms _ _ (is_empty b.0) _ Entered (λ e.
        after defs terms (Stands defs s r u) _ Entered Entered (scope_entered r u) (λ c j.
        tests defs terms _ _ (is_empty c.0) _ Entered (λ f. refl))))
    scope_entered (p.pattern at (p.Optional q)) u =
        given defs terms _ _ (opt_of (head defs u)) _ Entered (λ v e.
        after defs terms (Stands defs s q v) _ Entered Entered (scope_entered q v) (λ b i. i))
    scope_entered (p.pattern at (p.Tag x)) u =
        given defs terms _ _ (variant_of (head defs u)) _ Entered (λ tags e.
        given defs terms _ _ (find x tags) _ Entered (λ f found.
        given defs terms _ _ (tuple_of (head defs f.part)) _ Entered (λ parts et.
        tests defs terms _ _ (is_empty parts) _ Entered (λ none. refl))))
    scope_entered (p.pattern at (p.Tagged x q)) u =
        given defs terms _ _ (variant_of (head defs u)) _ Entered (λ tags e.
        given defs terms _ _ (find x tags) _ Entered (λ f found.
        after defs terms (Stands defs s q f.part) _ Entered Entered (scope_entered q f.part) (λ b i. i)))
    scope_entered (p.pattern at (p.Variable x)) u = refl
    scope_entered (p.pattern at p.Wildcard) u = refl
    scope_entered (p.pattern at (p.Constant minus l)) u =
        after defs terms (LiteralStands at minus l (head defs u)) _ (λ x. Unit {0}) Entered (anything defs terms (LiteralStands at minus l (head defs u))) (λ x i. refl)
    scope_entered (p.pattern at (p.Tuple items)) u =
        given defs terms _ _ (tuple_of (head defs u)) _ Entered (λ us e.
        after defs terms (EachStands defs s at items us) _ EachEntered Entered (each_entered at items us) (λ b i. i))
    scope_entered (p.pattern at (p.Object fields)) u =
        given defs terms _ _ (object_of (head defs u)) _ Entered (λ fs e.
        after defs terms (FieldsStand defs s fields fs) _ FieldsEntered Entered (fields_entered fields fs) (λ b i. i))

    each_entered : (at : ℕ) (qs : Patterns ℕ) (us : List Term) → Yields defs terms (EachStands defs s at qs us) EachEntered
    each_entered at p.Nil [] = refl
    each_entered at p.Nil (u ∷ us) = tt
    each_entered at (p.Cons q rest) [] = tt
    each_entered at (p.Cons q rest) (u ∷ us) =
        after defs terms (Stands defs s q u) _ Entered EachEntered (scope_entered q u) (λ b i.
        after defs terms (EachStands defs s at rest us) _ EachEntered EachEntered (each_entered at rest us) (λ c j. ap₂ (λ x y. x ++ y) j i ∙ beside (bound_names b.1) (bound_in_each c.1)))

    fields_entered : (qs : PatternFields ℕ) (fs : List (Field Term)) → Yields defs terms (FieldsStand defs s qs fs) FieldsEntered
    fields_entered p.NoFields fs = refl
    fields_entered (p.Field x q rest) fs =
        given defs terms _ _ (find x.bytes fs) _ FieldsEntered (λ f found.
        tests defs terms _ _ (not f.mutable) _ FieldsEntered (λ fixed.
        after defs terms (Stands defs s q f.part) _ Entered FieldsEntered (scope_entered q f.part) (λ b i.
        after defs terms (FieldsStand defs s rest fs) _ FieldsEntered FieldsEntered (fields_entered rest fs) (λ c j. ap₂ (λ x y. x ++ y) j i ∙ beside (bound_names b.1) (bound_in_fields c.1)))))
