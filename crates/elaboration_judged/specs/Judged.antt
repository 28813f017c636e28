-- Programs that are written out of judged sources, and what elaboration asks of them (Motoko language manual, sections "Actors" and "Type soundness").
use Rattle.std.specs.Prelude.{◌≡◌, List}
use Rattle.mo_syntax.specs.declared.program.Tree.{Tree}
use Rattle.mo_types.specs.declared.node.TypeId.{TypeId}
use Rattle.mo_types.specs.Graph.{Slot}
use Rattle.subtype_laws.specs.Reached.{Among}
use Rattle.typed_tree.specs.declared.program.Program.{Program as TypedProgram}
use Rattle.typed_tree.specs.ProgramView.{program}
use Rattle.typed_tree.specs.WellTyped.{WellTyped}
use Rattle.typing_rules.specs.AbstractPrograms.{abstract}
use Rattle.typing_rules.specs.AbstractSyntax.{Program}
use Rattle.typing_rules.specs.Gathered.{gathered}
use Rattle.typing_rules.specs.Programs.{TypedAs}
use Rattle.typing_rules.specs.Terms.{Term}
use Rattle.typing_rules.specs.TypedTrees.{Note}
use Rattle.desugaring.specs.Programs.{desugared}
use Rattle.desugaring_laws.specs.GraphOf.{IsGraphOf}
use Rattle.well_typed_laws.specs.Source.{IsWholeSource}
use Rattle.machine_nesting.specs.Sizes.{SizedProgram}
use Rattle.elaboration_starts.specs.Starts.{ActorStands}
use Rattle.elaboration_typed.specs.Standing.{KeptApart}

-- the front end judges the tree, and this is written out of it, over a graph that has the types that are met
pub record IsJudged (p : TypedProgram) : Type 0 where
  pub tree : Tree
  pub made : Program Note
  pub typed : TypedAs tree made
  pub slots : List Slot
  pub terms : List Term
  pub number : Term → TypeId
  pub graph : IsGraphOf (gathered (abstract tree)) slots terms number
  pub all : (u : Term) → Among u typed.met → Among u terms
  pub source : IsWholeSource slots terms number (abstract tree)
  pub is : p ≡ desugared (gathered (abstract tree)) number slots made

-- its functions read nothing that an upgrade kept: names of that stand in no scope of the source
abbrev pub JudgedProgramsKeepApart : Type 0
JudgedProgramsKeepApart = (p : TypedProgram) → IsJudged p → (w : WellTyped p) × KeptApart p w

-- all that the law of whole runs asks of it
pub record IsSound (p : TypedProgram) : Type 0 where
  pub well_typed : WellTyped p
  pub sized : SizedProgram (program p)
  pub stands : ActorStands (program p)

abbrev pub JudgedProgramsAreSound : Type 0
JudgedProgramsAreSound = (p : TypedProgram) → IsJudged p → IsSound p
