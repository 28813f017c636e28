-- The routines as the code holds them.
use Rattle.std.specs.Prelude.{ℕ, List, Some}
use Rattle.wasm_tree.specs.declared.types.ValueType.{ValueType}
use Rattle.wasm_tree.specs.declared.types.ValueType.TheVariants.{I64}
use Rattle.low_ir.specs.declared.routines.Routine.{Routine}
use Rattle.low_ir.specs.Tree.{Function}
use Rattle.low_ir.specs.Flat.{flat}

-- By this line, with these parameters; it gives a word of 64 bits.
abbrev pub built : ℕ → List ValueType → Function → Routine
built line params fn = record { line = line; params = params; locals = fn.locals; result = Some I64; body = flat fn.body }
