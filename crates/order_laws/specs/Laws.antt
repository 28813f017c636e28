-- Lists whose declarations are in order as they are written are in order as they are made.
use Rattle.std.specs.Prelude.{ℕ, Bool, List}
use Rattle.mo_types.specs.declared.node.TypeId.{TypeId}
use Rattle.mo_types.specs.Graph.{Slot}
use Rattle.typed_tree.specs.OperationTypes.{Distinct}
use Rattle.typing_rules.specs.AbstractSyntax.{Declarations}
use Rattle.typing_rules.specs.Definitions.{Definitions}
use Rattle.typing_rules.specs.Terms.{Term}
use Rattle.typing_rules.specs.TypeScopes.{TypeScope}
use Rattle.desugaring.specs.FreeNames.{names_of_list}
use Rattle.block_forms.specs.Blocks.{AreNested, InOrder}
use Rattle.kept_names.specs.Plain.{ArePlain}
use Rattle.order_laws.specs.Ordered.{declareds, IsOrdered}

-- A list of a block or object, whose names differ, is in order where its source is, in what it is judged to be. That patterns bind no names in alternatives is
-- seen to by the rules of patterns.
abbrev pub ListsAreInOrder : Type 0
ListsAreInOrder =
    (defs : Definitions) (slots : List Slot) (terms : List Term) (number : Term → TypeId) (value : Bool) (scope : TypeScope) (ds : Declarations ℕ)
    → Distinct (names_of_list ds) → AreNested ds → (ArePlain ds → IsOrdered (declareds ds)) → InOrder defs slots terms number value scope ds
