-- How executions of a low module under the host end: IC interface specification, sections Canister installation and upgrade, and
-- Callback invocation.
use Rattle.std.specs.Prelude.{ℕ, List, [], ◌∷◌, Option, Some, None, Bool, codes}
use Rattle.play_script.specs.declared.item.Word.TheVariants as word
use Rattle.wasm_tree.specs.Exec.{ExecutionLimits, Store}
use Rattle.wasm_tree.specs.Load.{Instance, Load, Loaded, AboveLimit, OutOfBounds}
use Rattle.ic0_world.specs.declared.kind.ExecutionKind.{ExecutionKind}
use Rattle.ic0_world.specs.declared.kind.ExecutionKind.TheVariants as kind
use Rattle.ic0_world.specs.declared.world.Callback.{Callback}
use Rattle.ic0_world.specs.declared.world.World.{World}
use Rattle.canister_host.specs.Execution.{End, Breaks}
use Rattle.canister_host.specs.HostRun.{quiet_world, entry_of}
use Rattle.low_ir.specs.Tree.{Module}
use Rattle.low_execution.specs.Execution.{low_execution}
use Rattle.low_execution.specs.Entries.{low_exported, low_callback}
use Rattle.low_execution.specs.Loading.{low_load}

-- What a canister keeps besides its code.
pub record Contents : Type 0 where
  pub instance : Instance
  pub stable : List ℕ

-- What an execution left.
abbrev pub contents_left : Store World → Contents
contents_left store = record { instance = record { memory = store.memory; globals = store.globals; table = store.table }; stable = store.world.stable.bytes }

abbrev pub low_loaded_end : ExecutionLimits → (own : List ℕ) → Module → ExecutionKind → (name stable : List ℕ) → Load → End
low_loaded_end limits own m k name stable AboveLimit = Breaks word.Heap []
low_loaded_end limits own m k name stable OutOfBounds = Breaks word.Bounds []
low_loaded_end limits own m k name stable (Loaded i) = low_execution limits m i (entry_of k (low_exported m name) []) (quiet_world limits own stable)

abbrev pub low_start_end : ExecutionLimits → (own : List ℕ) → Module → ExecutionKind → (name stable : List ℕ) → End
low_start_end limits own m k name stable = low_loaded_end limits own m k name stable (low_load limits m)

-- The world of an execution for an incoming call.
abbrev pub low_world : ExecutionLimits → (own stable caller argument : List ℕ) → (answered : Bool) → (open_before : ℕ) → World
low_world limits own stable caller argument answered open_before =
    record (quiet_world limits own stable) { caller = caller; argument = argument; answered = answered; open_before = open_before }

-- An execution of a callback; one that the table lacks is a trap.
abbrev pub low_found_end : ExecutionLimits → Module → Instance → ExecutionKind → Callback → World → Option ℕ → End
low_found_end limits m i k callback w None = Breaks word.Indirect []
low_found_end limits m i k callback w (Some f) = low_execution limits m i (entry_of k (Some f) (callback.environment ∷ [])) w

abbrev pub low_callback_end : ExecutionLimits → Module → Instance → ExecutionKind → Callback → World → End
low_callback_end limits m i k callback w = low_found_end limits m i k callback w (low_callback m i.table callback)

abbrev pub low_save_end : ExecutionLimits → (own : List ℕ) → Module → Contents → End
low_save_end limits own m c = low_execution limits m c.instance (entry_of kind.PreUpgrade (low_exported m (codes "canister_pre_upgrade")) []) (quiet_world limits own c.stable)
