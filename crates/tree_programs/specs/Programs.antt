-- The typed program of a syntax tree (Motoko language manual, sections "Programs" and "Actors").
use Rattle.std.specs.Prelude.{◌≡◌, List, [], Ok}
use Rattle.mo_syntax.specs.declared.program.Tree.{Tree}
use Rattle.mo_types.specs.declared.node.TypeId.{TypeId}
use Rattle.typed_tree.specs.declared.program.Program as typed
use Rattle.typing_rules.specs.AbstractSyntax.{Program}
use Rattle.typing_rules.specs.AbstractPrograms.{abstract}
use Rattle.typing_rules.specs.Answers.{answer, Comes}
use Rattle.typing_rules.specs.Gathered.{gathered}
use Rattle.typing_rules.specs.Programs.{JudgeProgram}
use Rattle.typing_rules.specs.Terms.{Term}
use Rattle.typing_rules.specs.TypedTrees.{Note}
use Rattle.desugaring.specs.Programs.{desugared}
use Rattle.graph_laws.specs.Laws.{IsGraph}

-- The tree is judged, and what it is judged to be is written out over the graph of the types that are met.
pub record IsProgramOf (tree : Tree) (p : typed.Program) : Type 0 where
  pub judged : Program Note
  pub met : List Term
  pub comes : Comes (gathered (abstract tree)) (JudgeProgram (abstract tree)) [] (answer (Ok judged) met)
  pub terms : List Term
  pub number : Term → TypeId
  pub graph : IsGraph (gathered (abstract tree)) met p.types terms number
  pub written : p ≡ desugared (gathered (abstract tree)) number p.types judged
