-- Which instance a module fits, and how a run ends.
use Rattle.std.specs.Prelude.{◌≡◌, ◌<◌, ℕ, List, length, Option, Some, slice_get}
use Rattle.std.specs.declared.result.Result.{Result}
use Rattle.std.specs.Prelude.{Ok, Err}
use Rattle.wasm_tree.specs.declared.module_parts.Module.{Module}
use Rattle.wasm_tree.specs.Valid.{signatures}
use Rattle.wasm_tree.specs.Load.{Instance}
use Rattle.wasm_machine.specs.declared.call.Stop.{Stop}
use Rattle.wasm_machine.specs.declared.call.Stop.TheVariants as stop
use Rattle.wasm_instance.specs.declared.instance.Outcome.{Outcome}
use Rattle.wasm_instance.specs.declared.instance.Outcome.TheVariants as outcome

-- The globals are as many as the module's, and the table holds numbers of its functions.
pub record IsInstanceOf (m : Module) (i : Instance) : Type 0 where
  pub globals : length m.globals ≡ length i.globals
  pub table : (place function : ℕ) → slice_get i.table place ≡ Some (Some function) → function < length (signatures m)

-- The outcome, where so many steps are left.
abbrev pub ended : Outcome → ℕ → Result ℕ Stop
ended outcome.Done left = Ok left
ended (outcome.Trap cause) left = Err (stop.Trapped cause)
ended outcome.Memory left = Err stop.Memory
