-- Executions of an actor's methods and of what waited, over its arena: exactly those of the meaning, but for what they cost.
use Rattle.std.specs.Prelude.{◌≡◌, ℕ, List, Option}
use Rattle.mo_types.specs.declared.node.TypeId.{TypeId}
use Rattle.mo_types.specs.Graph.{Slot}
use Rattle.mo_values.specs.Shapes.{Bytes}
use Rattle.typed_tree.specs.Language.{Functions}
use Rattle.typed_tree.specs.Language as typed
use Rattle.mo_meaning.specs.Acts as meaning
use Rattle.mo_meaning.specs.Actor.{surroundings}
use Rattle.mo_meaning.specs.Coding.{Coding, IsFaithful}
use Rattle.mo_meaning.specs.Kernel.{Entry}
use Rattle.mo_machine.specs.ActorLanguage.{Enters, Resumes}
use Rattle.mo_machine.specs.Bodies.{execution_of}
use Rattle.mo_machine.specs.Values.{load_list}
use Rattle.value_arena.specs.declared.node.ValueId.{ValueId}
use Rattle.arena_states.specs.Groups.{HasGroups}
use Rattle.arena_states.specs.Standing.{list_of}
use Rattle.arena_reductions.specs.Reduced.{Longer}
use Rattle.arena_executions.specs.declared.giving.Given.{Given}
use Rattle.arena_executions.specs.Giving.{IsThis}
use Rattle.arena_actors.specs.declared.actor.Actor.{Actor}
use Rattle.arena_actors.specs.declared.actor.Body.{Body}
use Rattle.arena_actors.specs.States.{fields_of, table_of, waiting_of, IsResting}
use Rattle.arena_outcomes.specs.declared.ran.Ran.{Ran}
use Rattle.arena_outcomes.specs.Ends.{table_in, Ends, IsKept, RestingIn}

-- a method with its caller and its arguments
pub record IsMethod (types : List Slot) (own : Bytes) (results : List TypeId) (place : Option ℕ) (caller : Bytes) (arguments : List ValueId) (n : ℕ) (x : Actor) (r : Ran) : Type 0 where
  pub tables : Longer x.table.items (table_in r)
  pub kept : IsKept x r
  pub rests : (groups : ℕ → Functions) → HasGroups groups (table_in r) → RestingIn groups r
  pub means : (coding : Coding) → IsFaithful coding → (groups : ℕ → Functions) → HasGroups groups (table_in r) → (entry : Entry) (vs : List typed.Value)
      → entry.place ≡ place → entry.results ≡ results → load_list vs ≡ list_of groups x.arena arguments
      → Ends groups n r (execution_of (surroundings coding types own (table_of coding types x.first x.made)) (fields_of groups x.arena x.store.items x.exports) (Enters entry caller vs))

-- what waited, and is given this
pub record IsResumed (types : List Slot) (own : Bytes) (given : Given) (b : Body) (n : ℕ) (x : Actor) (r : Ran) : Type 0 where
  pub tables : Longer x.table.items (table_in r)
  pub kept : IsKept x r
  pub rests : (groups : ℕ → Functions) → HasGroups groups (table_in r) → IsResting (waiting_of groups x.arena b) → RestingIn groups r
  pub means : (coding : Coding) → IsFaithful coding → (groups : ℕ → Functions) → HasGroups groups (table_in r) → (g : meaning.Given)
      → IsResting (waiting_of groups x.arena b) → IsThis groups x.arena given g
      → Ends groups n r (execution_of (surroundings coding types own (table_of coding types x.first x.made)) (fields_of groups x.arena x.store.items x.exports) (Resumes (waiting_of groups x.arena b) g))
