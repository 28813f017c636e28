-- What the host keeps between events: IC interface specification, section Abstract behavior.
use Rattle.std.specs.Prelude.{ℕ, List, [], Option, None}
use Rattle.wasm_tree.specs.declared.module_parts.Module.{Module}
use Rattle.wasm_tree.specs.Load.{Instance}
pub use Rattle.canister_host.specs.declared.calls.IncomingCall.{IncomingCall}
pub use Rattle.canister_host.specs.declared.calls.OpenCall.{OpenCall}

-- The installed module, with its memory, globals and table, and its stable memory.
pub record Canister : Type 0 where
  pub code : Module
  pub instance : Instance
  pub stable : List ℕ

pub record HostState : Type 0 where
  pub canister : Option Canister
  pub incoming : List IncomingCall
  -- how many outgoing calls were made
  pub made : ℕ
  pub waiting : List OpenCall

abbrev pub first_state : HostState
first_state = record { canister = None; incoming = []; made = 0; waiting = [] }
