-- The numbers of types and functions: those of the host's interface come first, so that a translation keeps every number.
use Rattle.std.specs.Prelude.{ℕ, zero, suc, ◌-◌, List, [], ◌∷◌, ◌++◌, map, Option, None, nat_lt, cond, slice_get}
use Rattle.wasm_tree.specs.declared.types.ValueType.{ValueType}
use Rattle.wasm_tree.specs.declared.types.ValueType.TheVariants.{I32, I64}
use Rattle.wasm_tree.specs.declared.types.FunctionType.{FunctionType}
use Rattle.wasm_tree.specs.Imports.{ic0}
use Rattle.wasm_tree.specs.Rules.{or_no}
use Rattle.low_ir.specs.declared.module_parts.LowGlobal.{LowGlobal}
use Rattle.low_ir.specs.declared.module_parts.LowGlobal.TheVariants as global
use Rattle.low_ir.specs.Tree.{Function, Module}

-- How many functions the interface has.
abbrev pub host_count : ℕ
host_count = 22

-- Their types in order.
unfoldable pub host_types : List FunctionType
host_types = map (λ i. i.1) ic0

-- The numbers of `stable64_grow` and of `trap`.
abbrev pub stable_grow : ℕ
stable_grow = 17

abbrev pub host_trap : ℕ
host_trap = 21

abbrev pub upto : ℕ → ℕ → List ℕ
upto from zero = []
upto from (suc count) = from ∷ upto (suc from) count

-- Each function of the interface has a type of its own.
unfoldable pub host_signatures : List ℕ
host_signatures = upto 0 host_count

abbrev pub all_types : Module → List FunctionType
all_types m = host_types ++ m.types

abbrev pub all_signatures : Module → List ℕ
all_signatures m = host_signatures ++ map (λ f. f.signature) m.functions

abbrev pub type_of : Module → ℕ → Option FunctionType
type_of m f = or_no (slice_get (all_signatures m) f) (slice_get (all_types m))

-- The function with this number, where the module defines it.
abbrev pub defined : Module → ℕ → Option Function
defined m f = cond (nat_lt f host_count) None (slice_get m.functions (f - host_count))

abbrev pub kind_of : LowGlobal → ValueType
kind_of (global.Word z) = I32
kind_of (global.Long z) = I64
