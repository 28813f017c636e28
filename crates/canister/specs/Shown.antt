-- What a canister shows: the host's state, where its module stands in a list.
use Rattle.std.specs.Prelude.{◌≡◌, ◌≤◌, ◌<◌, ◌*◌, ℕ, List, [], length, Option, Some, None, IfSome, slice_get}
use Rattle.wasm_tree.specs.declared.module_parts.Module.{Module}
use Rattle.wasm_tree.specs.Exec.{ExecutionLimits}
use Rattle.wasm_instance.specs.Fits.{IsInstanceOf}
use Rattle.canister_host.specs.State as host
use Rattle.canister_host.specs.State.{HostState}
use Rattle.canister_calls.specs.Calling.{SameCalls, state_with}
use Rattle.canister_execution.specs.Executed.{execution_limits}
use Rattle.canister_execution.specs.Views.{Contents, IsSettled}
use Rattle.canister_messages.specs.declared.state.State.{State}
use Rattle.canister_messages.specs.States.{canister_at, IsAsBefore}
use Rattle.canister.specs.Views.{View}

-- The module with this number, where one is installed.
abbrev pub module_of : List Module → Option ℕ → Option Module
module_of modules None = None
module_of modules (Some number) = slice_get modules number

abbrev pub canister_of : Option Module → Contents → Option host.Canister
canister_of None contents = None
canister_of (Some m) contents = Some (canister_at m contents)

-- The state of the host that a state shows, where its module is one of these.
abbrev pub shown_state : List Module → State → HostState
shown_state modules s = state_with (canister_of (module_of modules s.installed) s.memories.kept) s.calls

abbrev pub shown : List Module → View → HostState
shown modules c = shown_state modules c.state

abbrev pub limits_of_canister : View → ExecutionLimits
limits_of_canister c = execution_limits c.limits

-- What is kept fits the module that is installed.
abbrev pub Fits : List Module → State → Type 0
Fits modules s = (m : Module) → module_of modules s.installed ≡ Some m → IsInstanceOf m s.memories.kept.instance

-- The canister runs one of these modules, if any, what stands is what is kept, and no more than 500 calls are open.
pub record IsSound (modules : List Module) (s : State) : Type 0 where
  pub settled : IsSettled s.memories
  pub there : IfSome s.installed (λ number. number < length modules)
  pub fits : Fits modules s
  pub waiting : length s.calls.waiting.items ≤ 500

-- So it does after its events, of which none made more than 500 calls. Before the first one stable memory is empty.
pub record IsCanisterOf (modules : List Module) (c : View) : Type 0 where
  pub sound : IsSound modules c.state
  pub first : c.events ≡ 0 → c.state.memories.kept.stable ≡ []
  pub made : c.state.calls.made ≤ 500 * c.events

-- What installations leave alone.
pub record KeepsCalls (old new : State) : Type 0 where
  pub limits : new.memories.limits ≡ old.memories.limits
  pub own : new.own ≡ old.own
  pub calls : SameCalls old.calls new.calls

pub record IsUnchanged (old new : State) : Type 0 where
  pub installed : new.installed ≡ old.installed
  pub rest : IsAsBefore old new

-- What stood is kept now, for the module with this number.
pub record IsPlaced (number : ℕ) (old new : State) : Type 0 where
  pub installed : new.installed ≡ Some number
  pub kept : new.memories.kept ≡ old.memories.standing

-- The module with this number was begun, and what is kept fits it.
pub record IsBegun (m : Module) (number : ℕ) (s : State) : Type 0 where
  pub installed : s.installed ≡ Some number
  pub fits : IsInstanceOf m s.memories.kept.instance

pub record KeepsSelf (old new : State) : Type 0 where
  pub limits : new.memories.limits ≡ old.memories.limits
  pub own : new.own ≡ old.own
