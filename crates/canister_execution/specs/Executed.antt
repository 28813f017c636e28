-- What an execution comes to.
use Rattle.std.specs.Prelude.{⊤, ◌≡◌, ◌≤◌, ◌+◌, ℕ, List, [], ◌∷◌, length, map, Option, Some, None, Bool, slice_get}
use Rattle.wasm_tree.specs.declared.module_parts.Module.{Module}
use Rattle.wasm_tree.specs.Exec.{ExecutionLimits, Store, Called, Back, Fell}
use Rattle.wasm_tree.specs.Load as load
use Rattle.wasm_machine.specs.Asked.{IsMadeFor}
use Rattle.wasm_machine.specs.Ran.{IsCallable}
use Rattle.wasm_instance.specs.declared.instance.Instance.{Instance}
use Rattle.wasm_instance.specs.declared.instance.Limits.{Limits}
use Rattle.wasm_instance.specs.declared.instance.Outcome.{Outcome}
use Rattle.wasm_instance.specs.declared.instance.Outcome.TheVariants as outcome
use Rattle.ic0_world.specs.declared.function.Ic0.{Ic0}
use Rattle.ic0_world.specs.declared.world.World.{World}
use Rattle.canister_host.specs.declared.interface.Interface.{Interface}
use Rattle.canister_host.specs.Entries.{imported_function}
use Rattle.canister_host.specs.Types.{type_of_function}
use Rattle.canister_host.specs.Execution as execution
use Rattle.canister_host.specs.HostRun.{quiet_world}
use Rattle.play_script.specs.declared.item.Word.{Word}
use Rattle.canister_execution.specs.declared.execution.Entry.{Entry}
use Rattle.canister_execution.specs.declared.execution.Ended.{Ended}
use Rattle.canister_execution.specs.declared.memories.Message.{Message}
use Rattle.canister_execution.specs.declared.memories.Effects.{Effects}
use Rattle.canister_execution.specs.Views.{Contents}

abbrev pub execution_limits : Limits → ExecutionLimits
execution_limits l = record { steps = l.steps; pages = l.pages; stack = l.stack }

abbrev pub operands_of : Option ℕ → List ℕ
operands_of None = []
operands_of (Some operand) = operand ∷ []

abbrev pub entries_of : Option Entry → List execution.Entry
entries_of None = []
entries_of (Some e) = record { kind = e.kind; function = e.function; operands = operands_of e.operand } ∷ []

-- The functions are those that the module imports.
pub record AreImported (m : Module) (functions : List Ic0) : Type 0 where
  pub made_for : IsMadeFor m (map type_of_function functions)
  pub each : (index : ℕ) → slice_get functions index ≡ imported_function m index

abbrev pub CanEnter : Module → Entry → Type 0
CanEnter m e = IsCallable m e.function (operands_of e.operand)

-- What an execution reads and changes.
abbrev pub store_with : load.Instance → Bool → World → Store World
store_with i refused w = record { memory = i.memory; globals = i.globals; table = i.table; refused = refused; world = w }

abbrev pub store_now : Instance → World → Store World
store_now i w = store_with i.standing i.was_refused w

-- How a run ends, with the steps left and the store. Nothing is said where memory was wanting.
abbrev pub HasEnded : Called World → Outcome → ℕ → Store World → Type 0
HasEnded called outcome.Done left store = called ≡ Back left store []
HasEnded called (outcome.Trap cause) left store = called ≡ Fell cause store
HasEnded called outcome.Memory left store = ⊤

-- Stable memory keeps its limit, and no more than 500 calls are open.
pub record KeepsLimits (before after : World) : Type 0 where
  pub limit : after.stable.limit ≡ before.stable.limit
  pub open_before : after.open_before ≡ before.open_before
  pub few : length before.performed + before.open_before ≤ 500 → length after.performed + after.open_before ≤ 500

pub record Stays (before after : Interface) : Type 0 where
  pub functions : after.functions ≡ before.functions
  pub limits : KeepsLimits before.world after.world

abbrev pub IfRan : Outcome → Type 0 → Type 0
IfRan outcome.Done P = P
IfRan (outcome.Trap cause) P = P
IfRan outcome.Memory P = ⊤

pub record Finished (end : execution.End) (left : load.Instance) (w : World) : Type 0 where
  pub refused : Bool
  pub is : end ≡ execution.Finishes (store_with left refused w)

abbrev pub EndsBy : execution.End → load.Instance → World → Option Word → Type 0
EndsBy end left w None = Finished end left w
EndsBy end left w (Some word) = end ≡ execution.Breaks word w.prints

-- The end is the one that stands here, with this instance.
abbrev pub EndsAs : execution.End → load.Instance → Ended → Type 0
EndsAs end left ended = EndsBy end left ended.world ended.trap

-- The world of an execution that a message brings about.
abbrev pub world_of : ExecutionLimits → List ℕ → Message → List ℕ → World
world_of limits own m stable =
    record (quiet_world limits own stable) { caller = m.caller; argument = m.argument; reject_code = m.reject_code; reject_text = m.reject_text; answered = m.answered; open_before = m.open_before }

-- The execution finished, and left this and these effects.
pub record Completed (end : execution.End) (left : Contents) (e : Effects) : Type 0 where
  pub refused : Bool
  pub world : World
  pub is : end ≡ execution.Finishes (store_with left.instance refused world)
  pub stable : world.stable.bytes ≡ left.stable
  pub prints : world.prints ≡ e.prints
  pub performed : world.performed ≡ e.performed
  pub answer : world.answer ≡ e.answer

abbrev pub LeavesBy : execution.End → Contents → Effects → Option Word → Type 0
LeavesBy end left e None = Completed end left e
LeavesBy end left e (Some word) = end ≡ execution.Breaks word e.prints

-- The end left this and these effects.
abbrev pub Leaves : execution.End → Contents → Effects → Type 0
Leaves end left e = LeavesBy end left e e.trap
