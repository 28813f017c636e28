-- What a judged program is written out to is well typed.
use Rattle.std.specs.Prelude.{◌≡◌, List, length}
use Rattle.mo_syntax.specs.declared.program.Tree.{Tree}
use Rattle.mo_types.specs.declared.node.TypeId.{TypeId}
use Rattle.mo_types.specs.Graph.{Slot, node_at}
use Rattle.mo_types.specs.Sub.{IsSomething}
use Rattle.subtype_laws.specs.Reached.{Among}
use Rattle.typed_tree.specs.WellTyped.{WellTyped}
use Rattle.typing_rules.specs.AbstractPrograms.{abstract}
use Rattle.typing_rules.specs.Gathered.{gathered}
use Rattle.typing_rules.specs.Programs.{TypedAs}
use Rattle.typing_rules.specs.SameTerms.{number_in}
use Rattle.typing_rules.specs.Terms.{Term}
use Rattle.typing_rules.specs.TypedTrees.{Note}
use Rattle.typing_rules.specs.AbstractSyntax.{Program}
use Rattle.desugaring.specs.Programs.{desugared}
use Rattle.desugaring_laws.specs.GraphOf.{IsGraphOf}
use Rattle.well_typed_laws.specs.Source.{IsWholeSource}

-- A tree that is typed is written out to a well-typed program, over each graph that has the types that are met.
abbrev pub ProgramsAreWellTyped : Type 0
ProgramsAreWellTyped =
    (tree : Tree) (made : Program Note) (typed : TypedAs tree made) (slots : List Slot) (terms : List Term) (number : Term → TypeId) → IsGraphOf (gathered (abstract tree)) slots terms number → ((u : Term) → Among u typed.met → Among u terms)
    → IsWholeSource slots terms number (abstract tree) → WellTyped (desugared (gathered (abstract tree)) number slots made)

-- Of a graph with as many types as these terms, one that stands under the number of a term is its type: a term that is none of these has the number of no type.
abbrev pub NumbersAreOfTypes : Type 0
NumbersAreOfTypes = (slots : List Slot) (terms : List Term) → length terms ≡ length slots → (u : Term) → IsSomething (node_at slots (number_in terms u)) → Among u terms
