-- What the executions of installations and upgrades leave of the host's state.
use Rattle.std.specs.Prelude.{ℕ, List, [], ◌∷◌, ◌++◌, Option, Some, None, false, codes}
use Rattle.wasm_tree.specs.declared.module_parts.Module.{Module}
use Rattle.wasm_tree.specs.Exec.{ExecutionLimits}
use Rattle.play_script.specs.declared.item.Item.{Item}
use Rattle.play_script.specs.declared.item.Item.TheVariants as item
use Rattle.play_script.specs.declared.item.Word.{Word}
use Rattle.ic0_world.specs.declared.kind.ExecutionKind.TheVariants as kind
use Rattle.canister_host.specs.State.{Canister, HostState}
use Rattle.canister_host.specs.HostRun.{Outcome, outcome, begin, printed, with_canister}
use Rattle.canister_execution.specs.declared.memories.Effects.{Effects}
use Rattle.canister_execution.specs.declared.memories.Message.{Message}

-- What an execution is told that nobody called.
abbrev pub no_message : Message
no_message = record { caller = []; argument = []; reject_code = 0; reject_text = []; answered = false; open_before = 0 }

-- The executions of a module that is begun, behind these items, with this last one.
abbrev pub start_left : List Item → Item → Canister → Effects → HostState → Option Word → Outcome
start_left before last c e s None = outcome (before ++ printed e.prints ++ last ∷ []) (with_canister s c)
start_left before last c e s (Some cause) = outcome (before ++ printed e.prints ++ item.Trapped cause ∷ []) s

-- The preparation of an upgrade to this module, with the stable memory that it left.
abbrev pub preparation_left : ExecutionLimits → List ℕ → Module → List ℕ → Effects → HostState → Option Word → Outcome
preparation_left limits own m stable e s None = begin limits own m kind.PostUpgrade (codes "canister_post_upgrade") item.Upgraded stable (printed e.prints) s
preparation_left limits own m stable e s (Some cause) = outcome (printed e.prints ++ item.Trapped cause ∷ []) s
