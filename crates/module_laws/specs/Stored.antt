-- What a store leaves in a memory: WebAssembly Core 1.0, section 4.4.4.
use Rattle.std.specs.Prelude.{◌≡◌, ℕ, ◌+◌, ◌≤◌, List, ◌++◌, length, take, drop}
use Rattle.wasm_tree.specs.Exec.{bytes_of}

-- The memory with the bytes of a value in place of as many from an address on.
abbrev pub written : List ℕ → ℕ → ℕ → ℕ → List ℕ
written memory address size value = take address memory ++ bytes_of size value ++ drop (address + size) memory

-- It is as long as before. The bytes stand at the address, and the others are as they were.
pub record IsStored (memory : List ℕ) (address size value : ℕ) : Type 0 where
  pub same_length : length (written memory address size value) ≡ length memory
  pub here : take size (drop address (written memory address size value)) ≡ bytes_of size value
  pub below : (place count : ℕ) → place + count ≤ address → take count (drop place (written memory address size value)) ≡ take count (drop place memory)
  pub above : (place : ℕ) → address + size ≤ place → drop place (written memory address size value) ≡ drop place memory
