-- What an answer says of a module.
use Rattle.std.specs.List.{AllByRecursion}
use Rattle.std.specs.Prelude.{ℕ, Option, Result, Ok, Err, ⊤}
use Rattle.wasm_tree.specs.declared.module_parts.Module.{Module}
use Rattle.wasm_tree.specs.Rules.{every}
use Rattle.wasm_tree.specs.Valid.{IsValidFunction, ValidModule, Fails}
use Rattle.wasm_valid.specs.declared.fault.Fault.{Fault}
use Rattle.wasm_valid.specs.declared.fault.Fault.TheVariants as part
use Rattle.wasm_valid.specs.declared.fault.ValidFault.{ValidFault}
use Rattle.wasm_valid.specs.declared.fault.ValidFault.TheVariants as fault

-- The fault names a rule that fails, and where.
abbrev pub IsCause : Module → ValidFault → Type 0
IsCause m (fault.Broken function rule) = Fails m function rule
IsCause m fault.Memory = ⊤

abbrev pub Judged : {A : Type 0} → Module → Result A ValidFault → Type 0
Judged m (Ok a) = ValidModule m
Judged m (Err fault) = IsCause m fault

abbrev pub JudgedFunctions : {A : Type 0} → Module → Result A ValidFault → Type 0
JudgedFunctions m (Ok a) = AllByRecursion (IsValidFunction every m) m.functions
JudgedFunctions m (Err fault) = IsCause m fault

abbrev pub with_number : Fault → Option ℕ → ValidFault
with_number (part.Broken rule) function = fault.Broken function rule
with_number part.Memory function = fault.Memory
