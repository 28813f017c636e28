-- Low code that reads numbers of 32 bits and references to types, behind the first locals of code that goes over bytes.
use Rattle.std.specs.Prelude.{ℕ, ◌+◌, pos}
use Rattle.mo_types.specs.declared.wire.TableRef.{TableRef}
use Rattle.mo_types.specs.declared.wire.TableRef.TheVariants.{Plainly, At}
use Rattle.mo_types.specs.Wire.{plain_code}
use Rattle.wasm_tree.specs.declared.types.ValueType.TheVariants.{I64}
use Rattle.wasm_tree.specs.declared.op.Comparison.TheVariants.{Eq, Ne, LtU, GeU}
use Rattle.wasm_tree.specs.declared.op.BinaryOperator.TheVariants.{Add}
use Rattle.low_ir.specs.declared.op.Operand.TheVariants.{Local, Long}
use Rattle.low_ir.specs.declared.op.Operation.TheVariants.{Compare, Binary}
use Rattle.low_ir.specs.Tree.{Code, Stop, Set, If}
use Rattle.wire_numbers.specs.Scanning.{fails, scan}

-- where the comparison that was made holds, the bytes are of no message
abbrev pub unless : Code → Code
unless rest = If (Local 6) fails Stop rest

-- 128 to the power of the most digits that a number of 32 or 33 bits has
abbrev pub five_digits : ℕ
five_digits = 34359738368

-- a number of 32 bits, into the fourth local
abbrev pub u32_tests : Code → Code
u32_tests rest = Set 6 (Compare I64 GeU (Local 5) (Long (pos 128))) (unless (Set 6 (Compare I64 GeU (Local 3) (Long (pos 4294967296))) (unless rest)))

abbrev pub u32 : Code → Code
u32 rest = scan (pos five_digits) (u32_tests rest)

-- the number of a reference: that of its entry, or a greater one with the code of a type without parts
abbrev pub ref_word : TableRef → ℕ
ref_word (Plainly p) = 4096 + plain_code p
ref_word (At i) = i

-- the number of an entry, below their count in the ninth local
abbrev pub entry_tests : Code
entry_tests = Set 6 (Compare I64 GeU (Local 3) (Local 8)) (unless Stop)

-- a code: one byte, which is 0x68 or at least 0x6f
abbrev pub code_tests : Code
code_tests =
    Set 6 (Compare I64 Ne (Local 4) (Long (pos 128)))
    (unless
    (Set 6 (Compare I64 Eq (Local 5) (Long (pos 0x68)))
    (If (Local 6) Stop (Set 6 (Compare I64 LtU (Local 5) (Long (pos 0x6f))) (unless Stop))
    (Set 3 (Binary I64 Add (Local 5) (Long (pos 4096))) Stop))))

abbrev pub ref_tests : Code → Code
ref_tests rest = Set 6 (Compare I64 LtU (Local 5) (Long (pos 64))) (If (Local 6) entry_tests code_tests rest)

-- a reference, into the fourth local
abbrev pub ref : Code → Code
ref rest = scan (pos five_digits) (ref_tests rest)
