-- What executions leave of the host's state.
use Rattle.std.specs.Prelude.{ℕ, List, [], ◌∷◌, ◌++◌, Option, Some, None}
use Rattle.wasm_tree.specs.Exec.{ExecutionLimits}
use Rattle.play_script.specs.declared.item.Item.{Item}
use Rattle.play_script.specs.declared.item.Item.TheVariants as item
use Rattle.play_script.specs.declared.item.Word.{Word}
use Rattle.canister_host.specs.declared.calls.OpenCall.{OpenCall}
use Rattle.canister_host.specs.State.{Canister, HostState}
use Rattle.canister_host.specs.HostRun.{Outcome, clean_up, closing, printed, with_canister}
use Rattle.canister_calls.specs.Calling.{finished}
use Rattle.canister_execution.specs.declared.memories.Effects.{Effects}

-- A finished execution for an incoming call leaves this canister.
abbrev pub after : ℕ → Canister → Effects → HostState → Outcome
after owner left e s = finished owner (printed e.prints) e.performed e.answer (with_canister s left)

-- That of a method.
abbrev pub method_left : ℕ → Canister → Effects → HostState → Option Word → Outcome
method_left owner left e s None = after owner left e s
method_left owner left e s (Some cause) = closing owner (printed e.prints ++ item.Trapped cause ∷ []) s

-- That of a callback.
abbrev pub callback_left : ExecutionLimits → List ℕ → Canister → Canister → OpenCall → Effects → HostState → Option Word → Outcome
callback_left limits own c left call e s None = after call.owner left e s
callback_left limits own c left call e s (Some cause) = clean_up limits own c call cause e.prints s

-- That of a cleanup after a callback that gave these items and broke off.
abbrev pub cleanup_left : ℕ → List Item → Word → Canister → Effects → HostState → Option Word → Outcome
cleanup_left owner items cause left e s None = closing owner (items ++ printed e.prints ++ item.Trapped cause ∷ []) (with_canister s left)
cleanup_left owner items cause left e s (Some second) = closing owner (items ++ printed e.prints ++ item.Trapped cause ∷ item.Trapped second ∷ []) s
