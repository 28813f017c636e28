-- What a call of the host has come to for the activation that waits for it.
use Rattle.std.specs.Prelude.{◌≡◌, ℕ, ◌+◌, ◌-◌, List, ◌++◌, length, take, drop, Option, Result, Ok, Err, slice_get, Some, ⊤}
use Rattle.wasm_tree.specs.declared.trap.Trap.TheVariants as trap
use Rattle.wasm_tree.specs.declared.types.FunctionType.{FunctionType}
use Rattle.wasm_tree.specs.Frames.{optional}
use Rattle.wasm_machine.specs.declared.frames.Here.{Here}
use Rattle.wasm_machine.specs.declared.call.Stop.{Stop}
use Rattle.wasm_machine.specs.declared.call.Stop.TheVariants as stop
use Rattle.wasm_machine.specs.Stacks.{operands_of}

-- The arguments are the topmost of so many operands, in their order.
abbrev pub args_of : Here → List ℕ → ℕ → ℕ → List ℕ
args_of here cells held params = take params (drop (here.base + here.count + held - params) cells)

abbrev pub goes_on : Here → ℕ → ℕ → Here
goes_on here place held = record { place = place; base = here.base; count = here.count; height = here.height; room = here.room; held = held; depth = here.depth }

pub record HostGave (types : List FunctionType) (f params : ℕ) (here next : Here) (place held : ℕ) (cells written : List ℕ) (P : Option ℕ → Type 0) : Type 0 where
  pub result : Option ℕ
  pub few : (t : FunctionType) → slice_get types f ≡ Some t → length (optional result) ≡ length t.results
  pub next_is : next ≡ goes_on here place (held - params + length (optional result))
  pub operands : operands_of here written (held - params + length (optional result)) ≡ optional result ++ drop params (operands_of here cells held)
  pub replied : P result

abbrev pub HostCame : List FunctionType → ℕ → ℕ → Here → ℕ → ℕ → List ℕ → List ℕ → (Option ℕ → Type 0) → Type 0 → Result Here Stop → Type 0
HostCame types f params here place held cells written P trapped (Ok next) = HostGave types f params here next place held cells written P
HostCame types f params here place held cells written P trapped (Err (stop.Trapped cause)) = (cause ≡ trap.Host) × trapped
HostCame types f params here place held cells written P trapped (Err stop.Memory) = ⊤
