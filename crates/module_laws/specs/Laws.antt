-- The laws, as statements.
use Rattle.std.specs.Prelude.{◌≡◌, ℕ, ◌+◌, ◌<◌, ◌≤◌, ◌^◌, List, length, map, slice_get}
use Rattle.wasm_tree.specs.declared.module_parts.Module.{Module}
use Rattle.wasm_tree.specs.Imports.{ic0}
use Rattle.wasm_tree.specs.Exec.{number_of, bytes_of}
use Rattle.ic0_world.specs.Names.{functions}
use Rattle.ic0_world.specs.declared.world.World.{World}
use Rattle.canister_host.specs.Entries.{imported_names, answer_of, call_of, host}
use Rattle.module_laws.specs.Prints.{AnswerIsLater}
use Rattle.module_laws.specs.Stored.{IsStored}

abbrev pub HostFunctionsHaveNumbers : Type 0
HostFunctionsHaveNumbers =
    (m : Module) → imported_names m.imports ≡ map (λ i. i.0) ic0 → (f : ℕ) (args memory : List ℕ) (w : World) → host m f args memory w ≡ answer_of (call_of (slice_get functions f) args memory w)

abbrev pub PrintsOnlyGrow : Type 0
PrintsOnlyGrow = (m : Module) (f : ℕ) (args memory : List ℕ) (w : World) → AnswerIsLater w (host m f args memory w)

-- A store inside the memory, and the number that is read back.
abbrev pub StoresAreRead : Type 0
StoresAreRead =
    (memory : List ℕ) (address size value : ℕ) → address + size ≤ length memory → IsStored memory address size value × (value < 256 ^ size → number_of (bytes_of size value) ≡ value)
