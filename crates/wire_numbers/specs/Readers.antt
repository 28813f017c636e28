-- Routines that read a number or a truth value of a message (Candid specification, section "Memory"): from a place on, up to where the
-- bytes end. The word goes to a third place, and what is given is the place behind the value, or 0 where the bytes are not those of one.
use Rattle.std.specs.Prelude.{◌≡◌, ◌<◌, ◌≤◌, ◌^◌, ℕ, ◌+◌, ◌-◌, List, [], ◌∷◌, length, take, drop, Some, Result, Ok, Err, ℤ, pos, negsuc}
use Rattle.mo_num.specs.declared.kind.Kind.{Kind}
use Rattle.mo_num.specs.declared.kind.Kind.TheVariants as kind
use Rattle.mo_types.specs.declared.datum.Datum.{Datum}
use Rattle.mo_types.specs.declared.datum.Datum.TheVariants as part
use Rattle.candid_header.specs.declared.fault.Fault.{Fault}
use Rattle.module_laws.specs.Stored.{written}
use Rattle.wasm_tree.specs.declared.types.ValueType.TheVariants.{I32, I64}
use Rattle.wasm_tree.specs.declared.op.Comparison.TheVariants.{Ne, LtU, GtU, GeU}
use Rattle.wasm_tree.specs.declared.op.BinaryOperator.TheVariants.{Add, Sub}
use Rattle.wasm_tree.specs.declared.op.LoadKind.{LoadKind}
use Rattle.wasm_tree.specs.declared.op.LoadKind.TheVariants as load
use Rattle.wasm_tree.specs.declared.op.StoreKind.TheVariants as store
use Rattle.wasm_tree.specs.Numeric.{flag}
use Rattle.wasm_tree.specs.Exec.{Store, bits64}
use Rattle.low_ir.specs.declared.op.Operand.TheVariants.{Local, Word, Long}
use Rattle.low_ir.specs.declared.op.Operation.TheVariants.{Copy, Compare, Binary, Load}
use Rattle.low_ir.specs.Tree.{Code, Stop, Return, Set, If, Function}
use Rattle.low_ir.specs.Tree as code
use Rattle.low_rules.specs.Rule.{CallEnd, Comes}
use Rattle.memory_routines.specs.Heaps.{HoldsBytes}
use Rattle.memory_routines.specs.Numerals.{with_memory}
use Rattle.wire_numbers.specs.Scanning.{fails, byte, scan}

-- 2^63, which is 128 to the power of 9
abbrev pub nine_digits : ℤ
nine_digits = negsuc (2 ^ 63 - 1)

-- the word is stored, and the place behind the value is given
abbrev pub done : Code
done = code.Store store.I64 (Local 2) 0 (Local 3) (Return (Some (Local 0)))

-- Behind nine digits of which none is the last there is a tenth one.
abbrev pub if_tenth : Code → Code → Code
if_tenth tenth other = Set 6 (Compare I64 GeU (Local 5) (Long (pos 128))) (If (Local 6) tenth other done)

-- It has to be 0.
abbrev pub no_digit : Code
no_digit = Set 6 (Compare I64 Ne (Local 5) (Long (pos 0))) (If (Local 6) fails Stop Stop)

abbrev pub read_natural : Code
read_natural = scan nine_digits (if_tenth (byte no_digit) Stop)

abbrev pub lowered : Code
lowered = Set 3 (Binary I64 Sub (Local 3) (Local 4)) Stop

-- It is that of a number from 0 on, or that of a negative one.
abbrev pub negative_digit : Code
negative_digit = Set 6 (Compare I64 Ne (Local 5) (Long (pos 127))) (If (Local 6) fails Stop lowered)

abbrev pub sign_digit : Code
sign_digit = Set 6 (Compare I64 Ne (Local 5) (Long (pos 0))) (If (Local 6) negative_digit Stop Stop)

-- The last of fewer digits tells the sign.
abbrev pub last_sign : Code
last_sign = Set 6 (Compare I64 GeU (Local 5) (Long (pos 64))) (If (Local 6) lowered Stop Stop)

abbrev pub read_integer : Code
read_integer = scan nine_digits (if_tenth (byte sign_digit) last_sign)

-- so many bytes, the lowest first
abbrev pub read_fixed : ℤ → LoadKind → Code
read_fixed size of =
    Set 6 (Binary I32 Sub (Local 1) (Local 0))
    (Set 6 (Compare I32 LtU (Local 6) (Word size))
    (If (Local 6) fails Stop
    (Set 3 (Load of (Local 0) 0)
    (Set 0 (Binary I32 Add (Local 0) (Word size))
    done))))

abbrev pub flag_digit : Code
flag_digit = Set 6 (Compare I64 GtU (Local 5) (Long (pos 1))) (If (Local 6) fails Stop (Set 3 (Copy (Local 5)) done))

abbrev pub read_flag : Code
read_flag = byte flag_digit

abbrev pub read_kind : Kind → Code
read_kind kind.Nat = read_natural
read_kind kind.Int = read_integer
read_kind kind.Nat8 = read_fixed (pos 1) load.I64From8U
read_kind kind.Nat16 = read_fixed (pos 2) load.I64From16U
read_kind kind.Nat32 = read_fixed (pos 4) load.I64From32U
read_kind kind.Nat64 = read_fixed (pos 8) load.I64
read_kind kind.Int8 = read_fixed (pos 1) load.I64From8S
read_kind kind.Int16 = read_fixed (pos 2) load.I64From16S
read_kind kind.Int32 = read_fixed (pos 4) load.I64From32S
read_kind kind.Int64 = read_fixed (pos 8) load.I64

-- a routine that reads, from its code
abbrev pub reader : Code → ℕ → Function
reader body signature = record { signature = signature; locals = I64 ∷ I64 ∷ I64 ∷ I32 ∷ I64 ∷ []; body = body }

-- ---- lines

-- the word of what was read
abbrev pub word_of : Datum → ℕ
word_of (part.Number z) = bits64 z
word_of (part.Flag b) = flag b
word_of _ = 0

-- the bytes between two places
abbrev pub bytes_between : List ℕ → ℕ → ℕ → List ℕ
bytes_between memory from to = take (to - from) (drop from memory)

-- What is asked: the bytes and the word's place lie in the memory, which holds bytes.
pub record MayRead (memory : List ℕ) (at end to : ℕ) : Type 0 where
  pub order : at ≤ end
  pub inside : end ≤ length memory
  pub place : to + 8 ≤ length memory
  pub small : length memory < 2 ^ 32
  pub bytes : HoldsBytes memory

-- Where reading gives a value, its word is at its place and the place behind it is given; else the store is as it was, and 0 is given.
abbrev pub IsRead : {World : Type 0} → Store World → (end to : ℕ) → Result (Datum × List ℕ) Fault → CallEnd World → Type 0
IsRead {World = World} store end to (Ok x) e = (cost : ℕ) × (cost ≤ 500) × (e ≡ Comes cost (with_memory store (written store.memory to 8 (word_of x.0))) (Some (end - length x.1)))
IsRead {World = World} store end to (Err f) e = (cost : ℕ) × (cost ≤ 500) × (e ≡ Comes cost store (Some 0))
