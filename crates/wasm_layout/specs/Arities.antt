-- How many operands calls take and give, by tables of the types and functions of a module.
use Rattle.std.specs.Prelude.{ℕ, List, Bool, true, false, length, map, nat_lt, slice_get, Option, Some, None}
use Rattle.wasm_tree.specs.declared.types.FunctionType.{FunctionType}
use Rattle.wasm_tree.specs.declared.module_parts.Module.{Module}
use Rattle.wasm_tree.specs.Rules.{signatures}
use Rattle.wasm_layout.specs.declared.arity.Arity.{Arity}

abbrev pub count_of : Bool → ℕ
count_of false = 0
count_of true = 1

abbrev pub arity_of : FunctionType → Arity
arity_of t = record { params = length t.params; result = nat_lt 0 (length t.results) }

abbrev pub or_no_arity : Option Arity → Arity
or_no_arity None = record { params = 0; result = false }
or_no_arity (Some a) = a

abbrev pub arity_at : List Arity → ℕ → Arity
arity_at arities index = or_no_arity (slice_get arities index)

abbrev pub of_types : Module → List Arity
of_types m = map arity_of m.types

abbrev pub of_functions : List Arity → Module → List Arity
of_functions types m = map (arity_at types) (signatures m)
