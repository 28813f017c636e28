-- What `loaded` and `stored` say of the loads and stores of an execution.
use Rattle.std.proofs.Common.{◌≡◌, ℕ, ◌+◌, Bool, true, false, List, ◌∷◌, length, Option, Some, None, refl, cond, nat_le}
use Rattle.std.specs.Option.{option_map}
use Rattle.wasm_tree.specs.declared.trap.Trap.TheVariants as trap
use Rattle.wasm_tree.specs.declared.op.LoadKind.{LoadKind}
use Rattle.wasm_tree.specs.declared.op.StoreKind.{StoreKind}
use Rattle.wasm_tree.specs.Exec.{State, Did, Goes, Fails, load_at, store_at, load_size, store_size, extended, with_memory}
use Rattle.wasm_numeric.specs.Memory.{loaded, stored}

-- a load goes on with the value, or traps
abbrev pub load_did : {World : Type 0} → State World → Option ℕ → List ℕ → Did World
load_did s (Some value) operands = Goes s (value ∷ operands)
load_did s None operands = Fails trap.Bounds

-- a store goes on with the new memory, or traps
abbrev pub store_did : {World : Type 0} → State World → Bool → List ℕ → List ℕ → Did World
store_did s true memory operands = Goes (with_memory s memory) operands
store_did s false memory operands = Fails trap.Bounds

by_place : {World : Type 0} (s : State World) (kind : LoadKind) (n : ℕ) (operands : List ℕ) (inside : Bool)
    → cond inside (Goes s (extended kind n ∷ operands)) (Fails trap.Bounds) ≡ load_did s (option_map (extended kind) (cond inside (Some n) None)) operands
by_place s kind n operands true = refl
by_place s kind n operands false = refl

pub load_at-loaded : {World : Type 0} (s : State World) (kind : LoadKind) (address : ℕ) (operands : List ℕ)
    → load_at s kind address operands ≡ load_did s (loaded kind s.store.memory address) operands
load_at-loaded s kind address operands = by_place s kind _ operands (nat_le (address + load_size kind) (length s.store.memory))

by_room : {World : Type 0} (s : State World) (memory : List ℕ) (operands : List ℕ) (inside : Bool)
    → cond inside (Goes (with_memory s memory) operands) (Fails trap.Bounds) ≡ store_did s inside memory operands
by_room s memory operands true = refl
by_room s memory operands false = refl

pub store_at-stored : {World : Type 0} (s : State World) (kind : StoreKind) (address value : ℕ) (operands : List ℕ)
    → store_at s kind address value operands ≡ store_did s (nat_le (address + store_size kind) (length s.store.memory)) (stored kind s.store.memory address value) operands
store_at-stored s kind address value operands = by_room s _ operands (nat_le (address + store_size kind) (length s.store.memory))
