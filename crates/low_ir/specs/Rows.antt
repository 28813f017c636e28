-- Small modules whose calls are computed: results, steps, stack words, pages, traps.
use Rattle.std.specs.Prelude.{ℕ, suc, List, [], ◌∷◌, map, Option, Some, pos, false}
use Rattle.wasm_tree.specs.declared.trap.Trap.{Trap}
use Rattle.wasm_tree.specs.declared.trap.Trap.TheVariants as trap
use Rattle.wasm_tree.specs.declared.types.ValueType.TheVariants.{I32}
use Rattle.wasm_tree.specs.declared.types.FunctionType.{FunctionType}
use Rattle.wasm_tree.specs.declared.op.BinaryOperator.TheVariants.{Add, Sub, DivU}
use Rattle.wasm_tree.specs.declared.op.LoadKind.TheVariants as load
use Rattle.wasm_tree.specs.declared.op.StoreKind.TheVariants as store
use Rattle.wasm_tree.specs.Imports.{function_type}
use Rattle.wasm_tree.specs.Exec.{Store, Host, Refuses, pages_of}
use Rattle.low_ir.specs.declared.op.Operand.TheVariants.{Local, Word}
use Rattle.low_ir.specs.declared.op.Operation.TheVariants.{IsZero, Binary, Load}
use Rattle.low_ir.specs.Tree.{Code, Stop, Return, Branch, Set, Store as Stores, Grow, Block, Loop, If, BranchIf, Call, CallIndirect, Function, Module}
use Rattle.low_ir.specs.Meaning.{Called, Gave, Fell, Lost}
use Rattle.low_ir.specs.Frames.{enter}

-- from an i32 to an i32
abbrev pub number_type : FunctionType
number_type = function_type (I32 ∷ []) (I32 ∷ [])

-- Local 0 and all numbers below it, added up in local 1 by a loop.
abbrev pub sum_below : Code
sum_below =
    Block (Loop (Set 2 (IsZero I32 (Local 0)) (BranchIf (Local 2) 1 (Set 1 (Binary I32 Add (Local 1) (Local 0)) (Set 0 (Binary I32 Sub (Local 0) (Word (pos 1))) (Branch 0))))) Stop)
    (Return (Some (Local 1)))

-- The sum of two sums, by calls: a known one, and one through the table.
abbrev pub two_sums : Code
two_sums = Call (Some 1) 22 (Local 0 ∷ []) (CallIndirect (Some 2) 22 (Local 0 ∷ []) (Word (pos 0)) (Set 1 (Binary I32 Add (Local 1) (Local 2)) (Return (Some (Local 1)))))

-- The memory grows by so many pages, and then its last word is written and read again.
abbrev pub grow_and_write : Code
grow_and_write = Grow (Local 0) (Stores store.I32 (Word (pos 65532)) 65536 (Local 0) (Set 1 (Load load.I32 (Word (pos 65532)) 65536) (Return (Some (Local 1)))))

-- A choice, and a division that may have no divisor.
abbrev pub choose : Code
choose = If (Local 0) (Set 1 (Binary I32 DivU (Word (pos 100)) (Local 0)) Stop) (Set 1 (Binary I32 DivU (Local 0) (Local 0)) Stop) (Return (Some (Local 1)))

-- Calls itself for ever.
abbrev pub without_end : Code
without_end = Call (Some 1) 26 (Local 0 ∷ []) (Return (Some (Local 1)))

abbrev pub function_of : Code → Function
function_of body = record { signature = 22; locals = I32 ∷ I32 ∷ []; body = body }

abbrev pub example : Module
example = record {
  types = number_type ∷ [];
  functions = map function_of (sum_below ∷ two_sums ∷ grow_and_write ∷ choose ∷ without_end ∷ []);
  table = 22 ∷ [];
  globals = [];
  pages = 1;
  bytes = [];
  exports = [];
}

abbrev pub no_host : Host ℕ
no_host function args memory w = Refuses w

abbrev pub first_store : List ℕ → Store ℕ
first_store memory = record { memory = memory; globals = []; table = Some 22 ∷ []; refused = false; world = 0 }

-- How a call ended: with steps left and a value, or with a trap, and the pages of the memory then.
pub data Row : Type 0 where
  Value : (left : ℕ) → (value : Option ℕ) → (pages : ℕ) → Row
  Trapped : (cause : Trap) → (pages : ℕ) → Row
  NoRow : Row

abbrev pub row_of : Called ℕ → Row
row_of (Gave left store value) = Value left value (pages_of store.memory)
row_of (Fell cause store) = Trapped cause (pages_of store.memory)
row_of Lost = NoRow

-- Steps, stack words, pages, function, argument.
abbrev pub row : (steps words pages f argument : ℕ) → List ℕ → Row
row steps words pages f argument memory = row_of (enter (suc words) pages example no_host words f steps (first_store memory) (argument ∷ []))

-- The answers, in turn.
abbrev pub answers : List Row
answers =
    row 1000 100 0 22 4 []
    ∷ row 69 100 0 22 4 []
    ∷ row 68 100 0 22 4 []
    ∷ row 1000 15 0 22 4 []
    ∷ row 1000 14 0 22 4 []
    ∷ row 1000 100 0 23 3 []
    ∷ row 1000 28 0 23 3 []
    ∷ row 1000 27 0 23 3 []
    ∷ row 1000 100 0 25 7 []
    ∷ row 1000 100 0 25 0 []
    ∷ row 1000 60 0 26 1 []
    ∷ row 1000 100 0 24 1 []
    ∷ row 5 100 0 24 1 []
    ∷ row 1000 100 4 24 0 []
    ∷ row 1000 100 0 7 0 []
    ∷ row 1000 100 0 27 0 []
    ∷ []

-- A turn of the sum takes 15 steps, the last one 6, and the rest 3; its frame takes 8 words, and 1, 2, 2 and 2 for its parameter,
-- locals, operands and constructs. A caller's frame has 13.
abbrev pub wanted : List Row
wanted =
    Value 931 (Some 10) 0
    ∷ Value 0 (Some 10) 0
    ∷ Trapped trap.Steps 0
    ∷ Value 931 (Some 10) 0
    ∷ Trapped trap.Stack 0
    ∷ Value 879 (Some 12) 0
    ∷ Value 879 (Some 12) 0
    ∷ Trapped trap.Stack 0
    ∷ Value 992 (Some 14) 0
    ∷ Trapped trap.DivideByZero 0
    ∷ Trapped trap.Stack 0
    ∷ Trapped trap.Unreachable 0
    ∷ Trapped trap.Steps 0
    ∷ Trapped trap.Bounds 0
    ∷ Trapped trap.Host 0
    ∷ NoRow
    ∷ []
