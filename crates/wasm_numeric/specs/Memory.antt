-- Loads and stores at an effective address, which never wraps: WebAssembly Core 1.0 section 4.4.4.
use Rattle.std.specs.Prelude.{ℕ, ◌+◌, List, ◌++◌, length, take, drop, Option, Some, None, nat_le, cond}
use Rattle.std.specs.Option.{option_map}
use Rattle.wasm_tree.specs.declared.op.LoadKind.{LoadKind}
use Rattle.wasm_tree.specs.declared.op.StoreKind.{StoreKind}
use Rattle.wasm_tree.specs.Exec.{number_of, bytes_of, load_size, extended, store_size}

-- The number of so many bytes from an address on, where all of them lie in the memory.
abbrev pub read : ℕ → List ℕ → ℕ → Option ℕ
read count memory address = cond (nat_le (address + count) (length memory)) (Some (number_of (take count (drop address memory)))) None

-- The memory with so many low bytes of the value at an address, where all of them lie in it.
abbrev pub written : ℕ → List ℕ → ℕ → ℕ → List ℕ
written count memory address value = take address memory ++ bytes_of count value ++ drop (address + count) memory

-- What a load gives.
abbrev pub loaded : LoadKind → List ℕ → ℕ → Option ℕ
loaded kind memory address = option_map (extended kind) (read (load_size kind) memory address)

-- The memory after a store.
abbrev pub stored : StoreKind → List ℕ → ℕ → ℕ → List ℕ
stored kind memory address value = written (store_size kind) memory address value
