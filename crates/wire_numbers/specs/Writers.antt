-- Routines that write a number or a truth value into a message, from its word, in the shortest form; they give the place behind it.
use Rattle.std.specs.Prelude.{◌≡◌, ◌<◌, ◌≤◌, ◌^◌, ℕ, ◌+◌, List, [], ◌∷◌, length, Some, ℤ, pos, negsuc}
use Rattle.mo_num.specs.declared.kind.Kind.{Kind}
use Rattle.mo_num.specs.declared.kind.Kind.TheVariants as kind
use Rattle.wasm_tree.specs.declared.types.ValueType.TheVariants.{I32, I64}
use Rattle.wasm_tree.specs.declared.op.Comparison.TheVariants.{LtS, LtU}
use Rattle.wasm_tree.specs.declared.op.BinaryOperator.TheVariants.{Add, Sub, DivU, RemU}
use Rattle.wasm_tree.specs.declared.op.StoreKind.{StoreKind}
use Rattle.wasm_tree.specs.declared.op.StoreKind.TheVariants as store
use Rattle.wasm_tree.specs.Exec.{Store}
use Rattle.low_ir.specs.declared.op.Operand.TheVariants.{Local, Word, Long}
use Rattle.low_ir.specs.declared.op.Operation.{Operation}
use Rattle.low_ir.specs.declared.op.Operation.TheVariants.{Copy, Compare, Binary}
use Rattle.low_ir.specs.Tree.{Code, Stop, Return, Branch, Set, Loop, If, Function}
use Rattle.low_ir.specs.Tree as code
use Rattle.low_rules.specs.Rule.{CallEnd, Comes}
use Rattle.memory_routines.specs.Numerals.{with_memory, between}

-- Locals: the place of the next byte, the number that is left, a byte, and a test.
abbrev pub put : Code → Code
put rest = code.Store store.I64To8 (Local 0) 0 (Local 2) (Set 0 (Binary I32 Add (Local 0) (Word (pos 1))) rest)

abbrev pub next_digit : Code
next_digit = Set 1 (Binary I64 DivU (Local 1) (Long (pos 128))) (Branch 0)

-- a digit that is not the last, from the remainder in the third local
abbrev pub put_more : Operation → Code
put_more more = Set 2 (Binary I64 RemU (Local 1) (Long (pos 128))) (Set 2 more (put next_digit))

abbrev pub put_digit : ℤ → Operation → Operation → Code
put_digit limit last more = Set 3 (Compare I64 LtU (Local 1) (Long limit)) (If (Local 3) (Set 2 last (put (Return (Some (Local 0))))) Stop (put_more more))

abbrev pub marked : Operation
marked = Binary I64 Add (Local 2) (Long (pos 128))

abbrev pub write_natural : Code
write_natural = Loop (put_digit (pos 128) (Copy (Local 1)) marked) (Return (Some (Local 0)))

-- The digits of a negative number are those that its complement lacks.
abbrev pub put_negative : Code
put_negative = Set 1 (Binary I64 Sub (Long (negsuc 0)) (Local 1)) (Loop (put_digit (pos 64) (Binary I64 Sub (Long (pos 127)) (Local 1)) (Binary I64 Sub (Long (pos 255)) (Local 2))) Stop)

abbrev pub write_integer : Code
write_integer =
    Set 3 (Compare I64 LtS (Local 1) (Long (pos 0)))
    (If (Local 3) put_negative Stop
    (Loop (put_digit (pos 64) (Copy (Local 1)) marked) (Return (Some (Local 0)))))

-- so many bytes, the lowest first
abbrev pub write_fixed : ℤ → StoreKind → Code
write_fixed size to = code.Store to (Local 0) 0 (Local 1) (Set 0 (Binary I32 Add (Local 0) (Word size)) (Return (Some (Local 0))))

abbrev pub write_kind : Kind → Code
write_kind kind.Nat = write_natural
write_kind kind.Int = write_integer
write_kind kind.Nat8 = write_fixed (pos 1) store.I64To8
write_kind kind.Nat16 = write_fixed (pos 2) store.I64To16
write_kind kind.Nat32 = write_fixed (pos 4) store.I64To32
write_kind kind.Nat64 = write_fixed (pos 8) store.I64
write_kind kind.Int8 = write_fixed (pos 1) store.I64To8
write_kind kind.Int16 = write_fixed (pos 2) store.I64To16
write_kind kind.Int32 = write_fixed (pos 4) store.I64To32
write_kind kind.Int64 = write_fixed (pos 8) store.I64

abbrev pub write_flag : Code
write_flag = write_fixed (pos 1) store.I64To8

abbrev pub writer : Code → ℕ → Function
writer body signature = record { signature = signature; locals = I64 ∷ I32 ∷ []; body = body }

-- ---- lines

-- What is asked: there are ten bytes, the most that a number takes.
pub record MayWrite (memory : List ℕ) (at : ℕ) : Type 0 where
  pub inside : at + 10 ≤ length memory
  pub small : length memory < 2 ^ 32

-- These bytes stand from the place on, and the one behind them is given; the memory is else as it was.
abbrev pub IsWritten : {World : Type 0} → Store World → (at : ℕ) → List ℕ → CallEnd World → Type 0
IsWritten {World = World} store at text e = (cost : ℕ) × (cost ≤ 400) × (e ≡ Comes cost (with_memory store (between store.memory at text (at + length text))) (Some (at + length text)))
