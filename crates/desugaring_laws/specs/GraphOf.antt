-- A graph that has types of a program.
use Rattle.std.specs.Prelude.{◌≡◌, List, Some, slice_get}
use Rattle.mo_types.specs.declared.node.TypeId.{TypeId}
use Rattle.mo_types.specs.Graph.{Slot}
use Rattle.subtype_laws.specs.Reached.{Among}
use Rattle.typed_tree.specs.Types.{AreLawful}
use Rattle.typing_rules.specs.Terms.{Term}
use Rattle.typing_rules.specs.Definitions.{Definitions}
use Rattle.typing_rules.specs.Graphs.{Tied}

-- Under its number each of these terms stands with its head, and the types are those of a program.
pub record IsGraphOf (defs : Definitions) (slots : List Slot) (terms : List Term) (number : Term → TypeId) : Type 0 where
  pub tied : Tied defs slots terms
  pub lawful : AreLawful slots
  pub numbered : (u : Term) → Among u terms → slice_get terms (number u).index ≡ Some u
