-- What is written out is well typed.
use Rattle.std.specs.Prelude.{◌≡◌, ℕ, List, [], map}
use Rattle.mo_types.specs.declared.node.TypeId.{TypeId}
use Rattle.mo_types.specs.Graph.{Slot, head_at}
use Rattle.mo_types.specs.Sub.{Each}
use Rattle.subtype_laws.specs.Reached.{Among}
use Rattle.typed_tree.specs.PatternTypes as typed
use Rattle.typed_tree.specs.Wants.{Want, Of, Below}
use Rattle.typing_rules.specs.AbstractSyntax.{Pattern, TypeNode}
use Rattle.typing_rules.specs.Contexts.{Scope}
use Rattle.typing_rules.specs.Definitions.{Definitions}
use Rattle.typing_rules.specs.Patterns.{Stands}
use Rattle.typing_rules.specs.Terms.{Term, unit}
use Rattle.typing_rules.specs.TypedTrees.{Note}
use Rattle.typing_rules.specs.Types.{Reads}
use Rattle.typing_rules.specs.TypeScopes.{TypeScope}
use Rattle.desugaring.specs.Patterns.{pattern}
use Rattle.desugaring_laws.specs.GraphOf.{IsGraphOf}
use Rattle.desugaring_laws.specs.Known.{IsKnown}
use Rattle.desugaring_laws.specs.Names.{Names, bound_names, entered}
use Rattle.desugaring_laws.specs.Written.{PatternIsWritten}
use Rattle.desugaring_laws.specs.Yields.{Yields}

-- what names of these types stand for
abbrev pub wants : (Term → TypeId) → Names → List (Want TypeId)
wants number xs = map (λ x. Of (number x.1)) xs

-- each type that is written in this scope of types is one of values, in which no type parameters but these are met
abbrev pub AreWrittenFine : Definitions → List Term → List ℕ → TypeScope → Type 0
AreWrittenFine defs terms vs s = (a : TypeNode) → Yields defs terms (Reads defs s a) (IsKnown defs terms vs)

module _ (defs : Definitions) (slots : List Slot) (terms : List Term) (number : Term → TypeId) (vs : List ℕ) where
  -- a pattern that stands on u becomes one that stands on each type below it, with the names that are bound
  pub record PatternTyped (u : Term) (scope : Scope) (q : Pattern Note) : Type 0 where
    pub stands : (t : TypeId) → Below (head_at slots) t (number u) → typed.Stands slots vs (pattern defs number q) t (wants number (bound_names q))
    pub scope_is : scope ≡ entered (bound_names q) []
    pub known : Each (λ x. IsKnown defs terms vs x.1) (bound_names q)

-- Over a graph of the types that are met and of (), each pattern that is judged becomes one that is typed, where written types are those of values and
-- mention only the type parameters in scope.
abbrev pub PatternsAreTyped : Type 0
PatternsAreTyped =
    (defs : Definitions) (slots : List Slot) (terms : List Term) (number : Term → TypeId) → IsGraphOf defs slots terms number → Among unit terms → (vs : List ℕ) (s : TypeScope)
    → AreWrittenFine defs terms vs s → (q : Pattern ℕ) → PatternIsWritten q → (u : Term) → IsKnown defs terms vs u
    → Yields defs terms (Stands defs s q u) (λ b. PatternTyped defs slots terms number vs u b.0 b.1)
