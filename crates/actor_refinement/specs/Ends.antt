-- How an execution of a module ends, beside how an execution of a program comes out.
use Rattle.std.specs.Prelude.{◌≡◌, ℕ, List, [], codes}
use Rattle.play_script.specs.declared.item.Word.TheVariants as word
use Rattle.wasm_tree.specs.declared.module_parts.Module.{Module}
use Rattle.wasm_tree.specs.Exec.{ExecutionLimits, Store}
use Rattle.wasm_tree.specs.Load.{Load, Loaded, AboveLimit, OutOfBounds, load}
use Rattle.ic0_world.specs.declared.kind.ExecutionKind.{ExecutionKind}
use Rattle.ic0_world.specs.declared.kind.ExecutionKind.TheVariants as kind
use Rattle.ic0_world.specs.declared.world.World.{World}
use Rattle.canister_host.specs.State.{Canister}
use Rattle.canister_host.specs.Entries.{exported}
use Rattle.canister_host.specs.Execution.{End, Finishes, Breaks, execution}
use Rattle.canister_host.specs.HostRun.{quiet_world, entry_of, starting}
use Rattle.mo_actor.specs.Results.{Result, Completed, Trapped, Exhausted}

-- They came out alike: with the same prints, and completed so, or with the same trap, or cut off at the same limit.
abbrev pub EndsAlike : {A : Type 0} → (ℕ → A → Store World → Type 0) → Result A → End → Type 0
EndsAlike Leaves (Completed prints weight a) (Finishes store) = (prints ≡ store.world.prints) × Leaves weight a store
EndsAlike Leaves (Trapped prints text) (Breaks cause shown) = (prints ≡ shown) × (word.Text text ≡ cause)
EndsAlike Leaves (Exhausted prints limit) (Breaks cause shown) = (prints ≡ shown) × (limit ≡ cause)
EndsAlike Leaves _ _ = ⊥

-- How the module begins on this stable memory: it is loaded, and then its start function and this export run, as one execution.
abbrev pub loaded_end : ExecutionLimits → (own : List ℕ) → Module → ExecutionKind → (name stable : List ℕ) → Load → End
loaded_end limits own m k name stable AboveLimit = Breaks word.Heap []
loaded_end limits own m k name stable OutOfBounds = Breaks word.Bounds []
loaded_end limits own m k name stable (Loaded i) = execution limits m i (starting m k name) (quiet_world limits own stable)

abbrev pub start_end : ExecutionLimits → (own : List ℕ) → Module → ExecutionKind → (name stable : List ℕ) → End
start_end limits own m k name stable = loaded_end limits own m k name stable (load limits m)

abbrev pub install_end : ExecutionLimits → (own : List ℕ) → Module → End
install_end limits own m = start_end limits own m kind.Init (codes "canister_init") []

abbrev pub upgrade_end : ExecutionLimits → (own : List ℕ) → Module → (stable : List ℕ) → End
upgrade_end limits own m stable = start_end limits own m kind.PostUpgrade (codes "canister_post_upgrade") stable

-- How a canister prepares for an upgrade.
abbrev pub save_end : ExecutionLimits → (own : List ℕ) → Canister → End
save_end limits own c =
    execution limits c.code c.instance (entry_of kind.PreUpgrade (exported c.code (codes "canister_pre_upgrade")) []) (quiet_world limits own c.stable)
