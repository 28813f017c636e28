-- The functions by which the host enters: each takes bytes from the argument, calls routines on them and replies.
use Rattle.std.specs.Prelude.{ℕ, List, [], ◌∷◌, Some, None, pos, codes}
use Rattle.wasm_tree.specs.declared.types.ValueType.{ValueType}
use Rattle.wasm_tree.specs.declared.types.ValueType.TheVariants.{I32, I64}
use Rattle.wasm_tree.specs.declared.op.Comparison.TheVariants.{LtU, GtU}
use Rattle.wasm_tree.specs.declared.op.BinaryOperator.TheVariants.{Add, Sub, ShrU}
use Rattle.wasm_tree.specs.declared.op.LoadKind.TheVariants as load
use Rattle.wasm_tree.specs.declared.op.StoreKind.TheVariants.{I32To8}
use Rattle.low_ir.specs.declared.op.Operand.TheVariants.{Local, Word}
use Rattle.low_ir.specs.declared.op.Operation.TheVariants.{Compare, Binary, Load}
use Rattle.low_ir.specs.Tree.{Code, Stop, Trap, Set, Store, If, Call, CallIndirect, Function}
use Rattle.low_ir.specs.Flat.{flat}
use Rattle.run_time_link.specs.declared.linking.Entry.{Entry}
use Rattle.run_time_link.specs.Linking.{entry_signature}

-- The host's functions by their numbers: the size of the argument, a copy of a part of it, more reply data, and the reply.
abbrev argument_size : ℕ
argument_size = 0

abbrev copy_argument : ℕ
copy_argument = 1

abbrev append_reply : ℕ
append_reply = 4

abbrev reply : ℕ
reply = 6

abbrev pub replies : Code
replies = Call None reply [] Stop

-- The first 8 bytes of the argument are a number, the lowest byte first, whose digits are the reply. Locals: 28 bytes of new memory,
-- of which 20 are for digits; the place of the number, and then how many digits there are; the number; and where its digits begin.
abbrev pub reply_digits : Code
reply_digits =
    Call (Some 0) 22 (Word (pos 28) ∷ [])
    (Set 1 (Binary I32 Add (Local 0) (Word (pos 20)))
    (Call None copy_argument (Local 1 ∷ Word (pos 0) ∷ Word (pos 8) ∷ [])
    (Set 2 (Load load.I64 (Local 1) 0)
    (Call (Some 3) 26 (Local 1 ∷ Local 2 ∷ [])
    (Set 1 (Binary I32 Sub (Local 1) (Local 3))
    (Call None append_reply (Local 3 ∷ Local 1 ∷ []) replies))))))

-- The whole argument in new memory. Locals: its size and its place.
abbrev pub with_argument : Code → Code
with_argument rest = Call (Some 0) argument_size [] (Call (Some 1) 22 (Local 0 ∷ []) (Call None copy_argument (Local 1 ∷ Word (pos 0) ∷ Local 0 ∷ []) rest))

-- The reply is a copy of the argument, by the routine that copies.
abbrev pub reply_copy : Code
reply_copy = with_argument (Call (Some 2) 23 (Local 1 ∷ Local 0 ∷ []) (Call None append_reply (Local 2 ∷ Local 0 ∷ []) replies))

-- One byte of the local 0 is the reply. Its place is the local 1.
abbrev pub reply_byte : Code
reply_byte = Store I32To8 (Local 1) 0 (Local 0) (Call None append_reply (Local 1 ∷ Word (pos 1) ∷ []) replies)

-- Both halves of the argument are compared, by the routine at place 2 of the table: 1 where they are the same, else 0. Locals: the
-- size of a half and then what the comparison gives, the place of the first, that of the second, and new memory for the reply.
abbrev pub reply_same : Code
reply_same =
    with_argument
    (Set 0 (Binary I32 ShrU (Local 0) (Word (pos 1)))
    (Set 2 (Binary I32 Add (Local 1) (Local 0))
    (CallIndirect (Some 0) 25 (Local 1 ∷ Local 2 ∷ Local 0 ∷ []) (Word (pos 2))
    (Call (Some 1) 22 (Word (pos 1) ∷ []) reply_byte))))

-- The argument has the size of a text in 4 bytes, the lowest first, then the text, and then another: the reply is 0, 1 or 2 as the
-- first comes first, they are the same, or the second comes first. Where the sizes do not fit, the execution ends with the text at the
-- begin of the memory. Locals: how many bytes there are, and then the size of the second text; the place of all; the size of the first
-- text; the place of the second; that of the first; and a test.
abbrev pub short_trap : Code
short_trap = Trap (Word (pos 0)) (Word (pos 18))

abbrev pub reply_order : Code
reply_order =
    with_argument
    (Set 5 (Compare I32 LtU (Local 0) (Word (pos 4)))
    (If (Local 5) short_trap Stop
    (Set 2 (Load load.I32 (Local 1) 0)
    (Set 0 (Binary I32 Sub (Local 0) (Word (pos 4)))
    (Set 5 (Compare I32 GtU (Local 2) (Local 0))
    (If (Local 5) short_trap Stop
    (Set 4 (Binary I32 Add (Local 1) (Word (pos 4)))
    (Set 3 (Binary I32 Add (Local 4) (Local 2))
    (Set 0 (Binary I32 Sub (Local 0) (Local 2))
    (Call (Some 0) 25 (Local 4 ∷ Local 2 ∷ Local 3 ∷ Local 0 ∷ []) reply_byte))))))))))

abbrev pub entry_of : List ValueType → Code → Function
entry_of locals body = record { signature = entry_signature; locals = locals; body = body }

abbrev pub digits_entry : Function
digits_entry = entry_of (I32 ∷ I32 ∷ I64 ∷ I32 ∷ []) reply_digits

abbrev pub copy_entry : Function
copy_entry = entry_of (I32 ∷ I32 ∷ I32 ∷ []) reply_copy

abbrev pub same_entry : Function
same_entry = entry_of (I32 ∷ I32 ∷ I32 ∷ []) reply_same

abbrev pub order_entry : Function
order_entry = entry_of (I32 ∷ I32 ∷ I32 ∷ I32 ∷ I32 ∷ I32 ∷ []) reply_order

-- As it is given to the linker.
abbrev pub flat_entry : List ℕ → Function → Entry
flat_entry name fn = record { name = name; locals = fn.locals; body = flat fn.body }

-- Their names.
abbrev pub digits_name : List ℕ
digits_name = codes "canister_query digits"

abbrev pub copy_name : List ℕ
copy_name = codes "canister_query copy"

abbrev pub same_name : List ℕ
same_name = codes "canister_query same"

abbrev pub order_name : List ℕ
order_name = codes "canister_query order"
