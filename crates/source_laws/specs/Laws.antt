-- Whole expressions and lists of declarations.
use Rattle.std.specs.Prelude.{ℕ, List}
use Rattle.mo_types.specs.declared.node.TypeId.{TypeId}
use Rattle.mo_types.specs.Graph.{Slot}
use Rattle.subtype_laws.specs.Reached.{Among}
use Rattle.typing_rules.specs.AbstractSyntax.{Expression, Declarations}
use Rattle.typing_rules.specs.Definitions.{Definitions}
use Rattle.typing_rules.specs.Gathered.{in_expression, in_list}
use Rattle.typing_rules.specs.Terms.{Term, unit}
use Rattle.typing_rules.specs.TypeScopes.{TypeScope}
use Rattle.desugaring_laws.specs.GraphOf.{IsGraphOf}
use Rattle.expression_laws.specs.Results.{AreTyped}
use Rattle.scope_laws.specs.Gathers.{Gathers}
use Rattle.block_laws.specs.Lists.{AreReady}
use Rattle.source_laws.specs.Source.{IsSource, AreSource}

-- Over a graph of the types that are met and of (), each expression, whose definitions are found among those of its program, becomes a typed tree wherever it stands.
abbrev pub ExpressionsAreTyped : Type 0
ExpressionsAreTyped =
    (defs : Definitions) (slots : List Slot) (terms : List Term) (number : Term → TypeId) → IsGraphOf defs slots terms number → Among unit terms → (s : TypeScope) (a : Expression ℕ)
    → Gathers defs (in_expression s a) → IsSource defs slots terms number s a → AreTyped defs slots terms number s a

-- So the parts of each declaration of a list do.
abbrev pub ListsAreReady : Type 0
ListsAreReady =
    (defs : Definitions) (slots : List Slot) (terms : List Term) (number : Term → TypeId) → IsGraphOf defs slots terms number → Among unit terms → (s : TypeScope) (ds : Declarations ℕ)
    → Gathers defs (in_list s ds) → AreSource defs slots terms number s ds → AreReady defs slots terms number s ds
