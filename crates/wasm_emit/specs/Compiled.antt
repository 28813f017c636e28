-- What is said of an emitted module.
use Rattle.std.specs.Prelude.{◌≡◌, ℕ, List, Option}
use Rattle.std.specs.List.{AllByRecursion}
use Rattle.wasm_tree.specs.declared.module_parts.Module.{Module as WasmModule}
use Rattle.wasm_tree.specs.Exec.{ExecutionLimits}
use Rattle.wasm_tree.specs.Load.{Instance, load}
use Rattle.wasm_tree.specs.Valid.{ValidModule}
use Rattle.wasm_tree.specs.Bounded.{Within}
use Rattle.wasm_tree.specs.Binary.{Written}
use Rattle.ic0_world.specs.declared.world.World.{World}
use Rattle.ic0_world.specs.declared.world.Callback.{Callback}
use Rattle.canister_host.specs.Entries.{exported, callback_entry}
use Rattle.canister_host.specs.Execution.{Entry, execution}
use Rattle.low_ir.specs.declared.module_parts.LowModule.{LowModule}
use Rattle.low_ir.specs.Tree.{Module}
use Rattle.low_ir.specs.Flat.{flat_module}
use Rattle.low_ir.specs.Formed.{ModuleIsFormed, most_bytes}
use Rattle.low_execution.specs.Execution.{low_execution, IsEntry}
use Rattle.low_execution.specs.Entries.{low_exported, low_callback}
use Rattle.low_execution.specs.Loading.{low_load}
use Rattle.wasm_emit.specs.Emit.{emitted}

-- It is valid and has a spelling; and under all limits it begins with what the low module begins with, is entered where that one
-- is entered, and each of its executions, of any entries on any contents in any world, ends as that of the low module: with the
-- same memory, globals, table and world, or by the same word after the same prints, for want of steps, stack words and pages too.
pub record Keeps (m : Module) (w : WasmModule) : Type 0 where
  pub valid : ValidModule w
  pub spelled : Within (Written w) (most_bytes m)
  pub loads : (limits : ExecutionLimits) → load limits w ≡ low_load limits m
  pub exports : (name : List ℕ) → exported w name ≡ low_exported m name
  pub callbacks : (table : List (Option ℕ)) (callback : Callback) → callback_entry w table callback ≡ low_callback m table callback
  pub executes : (limits : ExecutionLimits) (i : Instance) (entries : List Entry) (world : World) → AllByRecursion (IsEntry m) entries → execution limits w i entries world ≡ low_execution limits m i entries world

-- It is the module that the low one is translated to, and keeps each formed module that the low one is the list of.
pub record Compiles (low : LowModule) (w : WasmModule) : Type 0 where
  pub is : w ≡ emitted low
  pub keeps : (m : Module) → low ≡ flat_module m → ModuleIsFormed m → Keeps m w

-- The translation as a law.
abbrev pub EmittedModulesKeep : Type 0
EmittedModulesKeep = (m : Module) → ModuleIsFormed m → Keeps m (emitted (flat_module m))
