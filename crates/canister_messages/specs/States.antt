-- The state of a canister between events, and the host's state that it shows while a module runs.
use Rattle.std.specs.Prelude.{◌≡◌, ◌≤◌, ℕ, List, [], length, Some, slice_get}
use Rattle.wasm_tree.specs.declared.module_parts.Module.{Module}
use Rattle.wasm_tree.specs.Exec.{ExecutionLimits}
use Rattle.wasm_instance.specs.Fits.{IsInstanceOf}
use Rattle.canister_host.specs.State as host
use Rattle.canister_host.specs.State.{HostState}
use Rattle.canister_host.specs.HostRun.{caller_of, is_answered}
use Rattle.canister_calls.specs.Calling.{SameCalls, state_with}
use Rattle.canister_execution.specs.declared.memories.Message.{Message}
use Rattle.canister_execution.specs.Executed.{execution_limits}
use Rattle.canister_execution.specs.Views.{Contents, IsSettled}
use Rattle.canister_messages.specs.declared.state.State.{State}

-- The canister with this module and these contents.
abbrev pub canister_at : Module → Contents → host.Canister
canister_at m contents = record { code = m; instance = contents.instance; stable = contents.stable }

-- The state that is shown where this module is installed.
abbrev pub state_at : Module → State → HostState
state_at m s = state_with (Some (canister_at m s.memories.kept)) s.calls

abbrev pub limits_of : State → ExecutionLimits
limits_of s = execution_limits s.memories.limits

-- What an execution for an incoming call is told.
abbrev pub message_of : ℕ → List ℕ → HostState → Message
message_of owner argument s =
    record { caller = caller_of (slice_get s.incoming owner); argument = argument; reject_code = 0; reject_text = []; answered = is_answered (slice_get s.incoming owner); open_before = length s.waiting }

-- The module can run: what stands is what is kept, and fits it, and no more than 500 calls are open.
pub record CanRun (m : Module) (s : State) : Type 0 where
  pub settled : IsSettled s.memories
  pub fits : IsInstanceOf m s.memories.kept.instance
  pub waiting : length s.calls.waiting.items ≤ 500

-- After want of memory: what is kept, and the calls, are as before.
pub record IsAsBefore (old new : State) : Type 0 where
  pub kept : new.memories.kept ≡ old.memories.kept
  pub calls : SameCalls old.calls new.calls

pub record KeepsRest (old new : State) : Type 0 where
  pub limits : new.memories.limits ≡ old.memories.limits
  pub own : new.own ≡ old.own
  pub installed : new.installed ≡ old.installed
