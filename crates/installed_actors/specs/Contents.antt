-- What the contents of a program's low module hold between events, where no call is open.
use Rattle.std.specs.Prelude.{◌≡◌, ◌≤◌, ℕ, ◌+◌, ◌*◌, List, [], ◌∷◌, ◌++◌, length}
use Rattle.canister_host.specs.declared.calls.OpenCall.{OpenCall}
use Rattle.mo_actor.specs.Passes.{CommittedState}
use Rattle.mo_values.specs.Shapes.{Bytes}
use Rattle.core_ir.specs.Worlds.{World}
use Rattle.core_ir.specs.Code.{CodeProgram}
use Rattle.core_ir.specs.CodeMachine.{Waiting}
use Rattle.core_ir.specs.Formed.{sees_at}
use Rattle.core_ir.specs.Actor.{Fields, core_language, outer_names}
use Rattle.heap_layout.specs.Ghosts.{Ghost}
use Rattle.heap_layout.specs.Heaps.{Holds}
use Rattle.heap_layout.specs.Table.{bytes_for}
use Rattle.emitted_steps.specs.States.{NamesAt, GroupsSee}
use Rattle.emitted_modules.specs.Laws.{first_table}
use Rattle.low_emit.specs.Modules.{Routine, plan, base, hidden, heap_begin}
use Rattle.low_refinement.specs.LowEnds.{Contents}

-- what executions find of the actor
abbrev pub world_between : Fields → World
world_between fields = record { store = fields.cells; groups = fields.groups; requests = [] }

-- The memory holds the actor's cells and groups; the words of names hold the values of its own names. The heap's end is the first
-- global, and the heap has grown by no more than was charged.
pub record ContentsHold (p : CodeProgram) (more : List Routine) (own : ℕ) (id : Bytes) {K : Type 0} (charged : ℕ) (state : CommittedState (core_language Waiting K)) (c : Contents) (waiting : List OpenCall) : Type 0 where
  pub ghost : Ghost
  pub count : ℕ
  pub top : ℕ
  pub others : List ℕ
  pub globals : c.instance.globals ≡ 8 * top ∷ others
  pub holds : Holds (plan p more own) ghost (world_between state.store) c.instance.memory count top
  pub table : c.instance.table ≡ first_table p more own
  pub counted : length state.store.names ≡ own
  pub names : NamesAt ghost c.instance.memory (base p more own) (hidden p more own) (outer_names id p.methods ++ state.store.names)
  pub groups : GroupsSee (sees_at p.groups) (world_between state.store)
  pub quiet : state.calls ≡ []
  pub none : waiting ≡ []
  pub paid : 8 * top ≤ 8 * heap_begin p more own + bytes_for charged
