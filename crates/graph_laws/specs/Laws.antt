-- The graph of a program's types (Motoko language manual, sections "Types" and "Well-formed types").
use Rattle.std.specs.Prelude.{◌≡◌, List, Some, slice_get}
use Rattle.mo_types.specs.declared.node.TypeId.{TypeId}
use Rattle.mo_types.specs.Graph.{Slot}
use Rattle.subtype_laws.specs.Reached.{Among}
use Rattle.typed_tree.specs.Types.{AllDefined}
use Rattle.typing_rules.specs.Definitions.{Definitions}
use Rattle.typing_rules.specs.Graphs.{Whole}
use Rattle.typing_rules.specs.Terms.{Term}
use Rattle.met_types.specs.States.{State, Stands}
use Rattle.kernel_types.specs.Numbers.{Holds, definitions, graph_terms, number}
use Rattle.desugaring_laws.specs.GraphOf.{IsGraphOf}
use Rattle.proper_laws.specs.Lawful.{AreTypesLawful}

-- This graph has the types that were met and those that they reach, each under its number, and no others.
pub record IsGraph (defs : Definitions) (met : List Term) (slots : List Slot) (terms : List Term) (number : Term → TypeId) : Type 0 where
  pub whole : Whole defs met slots terms
  pub defined : AllDefined slots slots
  pub numbered : (u : Term) → Among u terms → slice_get terms (number u).index ≡ Some u

-- The graph that the checker keeps is that of the types that it met.
abbrev pub GraphsAreKept : Type 0
GraphsAreKept = (s : State) → Holds s → (met : List Term) → Stands met s → IsGraph (definitions s) met s.slots (graph_terms s) (number s)

-- Where the types are lawful, their graph is, and has those that were met.
abbrev pub GraphsAreLawful : Type 0
GraphsAreLawful =
    (defs : Definitions) (met : List Term) (slots : List Slot) (terms : List Term) (number : Term → TypeId) → IsGraph defs met slots terms number → AreTypesLawful defs met
    → IsGraphOf defs slots terms number × ((u : Term) → Among u met → Among u terms)
