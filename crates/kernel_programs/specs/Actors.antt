-- Actors, with the types as they are in the table and in the graph.
use Rattle.std.specs.Prelude.{List}
use Rattle.mo_types.specs.Graph.{Slot}
use Rattle.typed_tree.specs.declared.program.Program as typed
use Rattle.abstract_tree.specs.declared.program.Program.{Program}
use Rattle.abstract_tree.specs.TreeView.{program}
use Rattle.value_scopes.specs.declared.note.Note.{Note}
use Rattle.value_scopes.specs.Values.{noted}
use Rattle.met_types.specs.States.{State}
use Rattle.desugaring.specs.Programs.{desugared}
use Rattle.kernel_types.specs.Numbers.{definitions, number}
use Rattle.kernel_programs.specs.declared.actors.Actor.{Actor}

-- an actor with its types
abbrev pub typed_by : List Slot → Actor → typed.Program
typed_by types a = record {
  types = types;
  nodes = a.nodes;
  declarations = a.declarations;
  methods = a.methods;
  before_upgrade = a.before_upgrade;
  after_upgrade = a.after_upgrade;
  stable = a.stable;
}

abbrev pub desugared_in : State → List Slot → Program Note → typed.Program
desugared_in s types x = desugared (definitions s) (number s) types (program (noted s.forms) x)
