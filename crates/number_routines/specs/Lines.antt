-- The lines of arithmetic: what a routine gives, or the text with which it ends the execution.
use Rattle.std.specs.Prelude.{◌≡◌, ◌≤◌, ℕ, Bool, List, [], ◌∷◌, Some, ℤ, Result, Ok, Err}
use Rattle.mo_num.specs.declared.operator.NumTrap.{NumTrap}
use Rattle.wasm_tree.specs.declared.types.ValueType.{ValueType}
use Rattle.wasm_tree.specs.declared.types.ValueType.TheVariants.{I32, I64}
use Rattle.wasm_tree.specs.declared.types.FunctionType.{FunctionType}
use Rattle.wasm_tree.specs.Numeric.{flag}
use Rattle.wasm_tree.specs.Exec.{Store, Host, bits32, bits64}
use Rattle.low_ir.specs.declared.op.Operand.{Operand}
use Rattle.low_ir.specs.declared.op.Operand.TheVariants.{Local}
use Rattle.low_ir.specs.Tree.{Code, Return, Function}
use Rattle.low_ir.specs.Numbering.{host_trap}
use Rattle.low_rules.specs.Rule.{CallEnd, Comes}
use Rattle.heap_layout.specs.Endings.{trap_end}
use Rattle.number_routines.specs.declared.places.TrapPlaces.{TrapPlaces}
use Rattle.number_routines.specs.Codes.{place, size}

abbrev pub long_of : List ValueType → FunctionType
long_of params = record { params = params; results = I64 ∷ [] }

-- Three words and two tests, besides its arguments.
abbrev pub spare : List ValueType
spare = I64 ∷ I64 ∷ I64 ∷ I32 ∷ I32 ∷ []

-- A routine of two words, from code that goes on as it is told.
abbrev pub of_two : ℕ → (Operand → Operand → Code → Code) → Function
of_two signature code = record { signature = signature; locals = spare; body = code (Local 0) (Local 1) (Return (Some (Local 2))) }

-- A routine of one word, likewise; its first local is the one behind its argument.
abbrev pub of_one : ℕ → (Operand → Code → Code) → Function
of_one signature code = record { signature = signature; locals = spare; body = code (Local 0) (Return (Some (Local 1))) }

-- A number with its word; the store is as it was.
abbrev pub Results : {World : Type 0} → Store World → (most : ℕ) → ℤ → CallEnd World → Type 0
Results store most n end = (cost : ℕ) × (cost ≤ most) × (end ≡ Comes cost store (Some (bits64 n)))

-- A number, or a trap with its text.
module _ {World : Type 0} (host : Host World) (at : TrapPlaces) (store : Store World) (most : ℕ) where
  abbrev pub Answers : Result ℤ NumTrap → CallEnd World → Type 0
  Answers (Ok n) end = Results store most n end
  Answers (Err t) end = (cost : ℕ) × (cost ≤ most) × (end ≡ trap_end store cost (host host_trap (bits32 (place at t) ∷ size t ∷ []) store.memory store.world))

-- A truth value; the store is as it was.
abbrev pub Tells : {World : Type 0} → Store World → (most : ℕ) → Bool → CallEnd World → Type 0
Tells store most b end = (cost : ℕ) × (cost ≤ most) × (end ≡ Comes cost store (Some (flag b)))
