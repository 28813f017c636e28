-- A routine that writes a number in decimal digits.
use Rattle.std.specs.Prelude.{◌≡◌, ◌≤◌, ℕ, ◌+◌, List, [], ◌∷◌, ◌++◌, length, take, drop, Some, pos, decimal}
use Rattle.wasm_tree.specs.declared.types.ValueType.TheVariants.{I32, I64}
use Rattle.wasm_tree.specs.declared.op.BinaryOperator.TheVariants.{Add, Sub, DivU, RemU}
use Rattle.wasm_tree.specs.declared.op.StoreKind.TheVariants.{I64To8}
use Rattle.wasm_tree.specs.Exec.{Store}
use Rattle.low_ir.specs.declared.op.Operand.TheVariants.{Local, Word, Long}
use Rattle.low_ir.specs.declared.op.Operation.TheVariants.{IsZero, Binary}
use Rattle.low_ir.specs.Tree.{Code, Stop, Return, Branch, Set, Store as Stores, Loop, If, Function}
use Rattle.low_rules.specs.Rule.{CallEnd, Comes}

-- Locals: the place of the digit before, the number that is left, a digit and a test.
abbrev pub one_digit : Code
one_digit =
    Set 2 (Binary I64 RemU (Local 1) (Long (pos 10)))
    (Set 2 (Binary I64 Add (Local 2) (Long (pos 48)))
    (Set 0 (Binary I32 Sub (Local 0) (Word (pos 1)))
    (Stores I64To8 (Local 0) 0 (Local 2)
    (Set 1 (Binary I64 DivU (Local 1) (Long (pos 10)))
    (Set 3 (IsZero I64 (Local 1))
    (If (Local 3) (Return (Some (Local 0))) Stop
    (Branch 0)))))))

abbrev pub write_digits : Code
write_digits = Loop one_digit (Return (Some (Local 0)))

abbrev pub numeral : ℕ → Function
numeral signature = record { signature = signature; locals = I64 ∷ I32 ∷ []; body = write_digits }

abbrev pub with_memory : {World : Type 0} → Store World → List ℕ → Store World
with_memory s memory = record { memory = memory; globals = s.globals; table = s.table; refused = s.refused; world = s.world }

-- The memory with the text between two places.
abbrev pub between : List ℕ → ℕ → List ℕ → ℕ → List ℕ
between memory from text to = (take from memory ++ text) ++ drop to memory

-- It gives the place from which the digits of the number stand up to the place that was given, in at most 521 steps; the memory is else
-- as it was.
abbrev pub WritesDigits : {World : Type 0} → Store World → (to n : ℕ) → CallEnd World → Type 0
WritesDigits {World = World} store to n end =
    (from cost : ℕ) × (cost ≤ 521) × (from + length (decimal n) ≡ to) × (end ≡ Comes cost (with_memory store (between store.memory from (decimal n) to)) (Some from))
