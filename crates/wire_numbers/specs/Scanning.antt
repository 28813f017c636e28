-- Low code that goes over bytes from a place on. Its first locals are the place of the next byte, the place where the bytes end, and
-- one that it does not touch; then come three words, a test and a word: the number, 128 to the power of the digits that were read, a
-- byte, and a product.
use Rattle.std.specs.Prelude.{Some, ℤ, pos}
use Rattle.wasm_tree.specs.declared.types.ValueType.TheVariants.{I32, I64}
use Rattle.wasm_tree.specs.declared.op.Comparison.TheVariants.{Eq, LtU, GeU}
use Rattle.wasm_tree.specs.declared.op.BinaryOperator.TheVariants.{Add, Mul, RemU}
use Rattle.wasm_tree.specs.declared.op.LoadKind.TheVariants.{I64From8U}
use Rattle.low_ir.specs.declared.op.Operand.TheVariants.{Local, Word, Long}
use Rattle.low_ir.specs.declared.op.Operation.TheVariants.{Copy, Compare, Binary, Load}
use Rattle.low_ir.specs.Tree.{Code, Stop, Return, Branch, Set, Block, Loop, If, BranchIf}

-- no place: the bytes are not those of a value
abbrev pub fails : Code
fails = Return (Some (Word (pos 0)))

abbrev pub forward : Code → Code
forward rest = Set 0 (Binary I32 Add (Local 0) (Word (pos 1))) rest

-- the next byte
abbrev pub byte : Code → Code
byte rest = Set 6 (Compare I32 GeU (Local 0) (Local 1)) (If (Local 6) fails Stop (Set 5 (Load I64From8U (Local 0) 0) (forward rest)))

abbrev pub limit_test : ℤ → Code
limit_test limit = Set 6 (Compare I64 Eq (Local 4) (Long limit)) (BranchIf (Local 6) 1 (Branch 0))

abbrev pub last_test : ℤ → Code
last_test limit = Set 6 (Compare I64 LtU (Local 5) (Long (pos 128))) (BranchIf (Local 6) 1 (limit_test limit))

abbrev pub counted : ℤ → Code
counted limit =
    Set 7 (Binary I64 RemU (Local 5) (Long (pos 128)))
    (Set 7 (Binary I64 Mul (Local 7) (Local 4))
    (Set 3 (Binary I64 Add (Local 3) (Local 7))
    (Set 4 (Binary I64 Mul (Local 4) (Long (pos 128)))
    (last_test limit))))

abbrev pub one_digit : ℤ → Code
one_digit limit = byte (counted limit)

-- Digits up to the last one, or up to where 128 to the power of their count is the limit: then the last byte is 128 or more.
abbrev pub scan : ℤ → Code → Code
scan limit rest = Set 3 (Copy (Long (pos 0))) (Set 4 (Copy (Long (pos 1))) (Block (Loop (one_digit limit) Stop) rest))
