-- What a low module begins with: WebAssembly Core 1.0, section 4.5.4.
use Rattle.std.specs.Prelude.{ℕ, ◌-◌, ◌*◌, ◌++◌, length, map, replicate, Some, nat_le, cond}
use Rattle.wasm_tree.specs.Exec.{ExecutionLimits, bits32, bits64}
use Rattle.wasm_tree.specs.Load.{Instance, Load, AboveLimit, Loaded}
use Rattle.low_ir.specs.declared.module_parts.LowGlobal.{LowGlobal}
use Rattle.low_ir.specs.declared.module_parts.LowGlobal.TheVariants as global
use Rattle.low_ir.specs.Tree.{Module}

abbrev pub first_value : LowGlobal → ℕ
first_value (global.Word z) = bits32 z
first_value (global.Long z) = bits64 z

-- Its bytes stand at the begin of the memory, and the rest is 0.
abbrev pub first_instance : Module → Instance
first_instance m = record {
  memory = m.bytes ++ replicate (65536 * m.pages - length m.bytes) 0;
  globals = map first_value m.globals;
  table = map Some m.table;
}

abbrev pub low_load : ExecutionLimits → Module → Load
low_load limits m = cond (nat_le m.pages limits.pages) (Loaded (first_instance m)) AboveLimit
