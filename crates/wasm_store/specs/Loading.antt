-- What loading a module answers and leaves.
use Rattle.std.specs.Prelude.{◌≡◌, ℕ, [], Result, IsOk, IsErrOf}
use Rattle.wasm_tree.specs.declared.module_parts.Module.{Module}
use Rattle.wasm_tree.specs.Load.{Instance, Load, AboveLimit, OutOfBounds, Loaded, load}
use Rattle.wasm_store.specs.declared.store.LoadTrap.{LoadTrap}
use Rattle.wasm_store.specs.declared.store.LoadTrap.TheVariants.{Heap, Bounds}

-- What is there without a module.
abbrev pub nothing : Instance
nothing = record { memory = []; globals = []; table = [] }

-- Loading under a limit of pages. It takes no steps and no stack.
abbrev pub load_within : ℕ → Module → Load
load_within pages m = load (record { steps = 0; pages = pages; stack = 0 }) m

-- After a refusal no module stands there.
abbrev pub Answers : {A : Type 0} → Load → Result A LoadTrap → Instance → Type 0
Answers AboveLimit result left = IsErrOf result Heap × (left ≡ nothing)
Answers OutOfBounds result left = IsErrOf result Bounds × (left ≡ nothing)
Answers (Loaded first) result left = IsOk result × (left ≡ first)
