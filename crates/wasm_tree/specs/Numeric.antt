-- What numeric instructions give: WebAssembly Core 1.0 section 4.3. An integer is its bits as a number; an
-- instruction looks at as many low bits as its type has.
use Rattle.std.specs.Prelude.{ℕ, ◌+◌, ◌-◌, ◌*◌, ◌/◌, ◌%◌, ◌^◌, Bool, false, not, cond, nat_lt, nat_le, nat_eq, Result, Ok, Err, ℤ, pos, negsuc, bit_and, bit_or, bit_xor, int_lt, int_div, int_rem, count_ones}
use Rattle.std.specs.Int.{Width, w32, w64, cast_signed, cast_unsigned, int_shr, rotate_left, rotate_right, leading_zeros, trailing_zeros}
use Rattle.wasm_tree.specs.declared.trap.Trap.{Trap}
use Rattle.wasm_tree.specs.declared.trap.Trap.TheVariants.{DivideByZero, Overflow}
use Rattle.wasm_tree.specs.declared.types.ValueType.{ValueType}
use Rattle.wasm_tree.specs.declared.types.ValueType.TheVariants.{I32, I64}
use Rattle.wasm_tree.specs.declared.op.Comparison.{Comparison}
use Rattle.wasm_tree.specs.declared.op.Comparison.TheVariants.{Eq, Ne, LtS, LtU, GtS, GtU, LeS, LeU, GeS, GeU}
use Rattle.wasm_tree.specs.declared.op.UnaryOperator.{UnaryOperator}
use Rattle.wasm_tree.specs.declared.op.UnaryOperator.TheVariants.{Clz, Ctz, Popcnt}
use Rattle.wasm_tree.specs.declared.op.BinaryOperator.{BinaryOperator}
use Rattle.wasm_tree.specs.declared.op.BinaryOperator.TheVariants.{Add, Sub, Mul, DivS, DivU, RemS, RemU, And, Or, Xor, Shl, ShrS, ShrU, Rotl, Rotr}
use Rattle.wasm_tree.specs.declared.op.Conversion.{Conversion}
use Rattle.wasm_tree.specs.declared.op.Conversion.TheVariants.{Wrap, ExtendS, ExtendU}

abbrev pub width : ValueType → Width
width I32 = w32
width I64 = w64

abbrev pub bits_of : ValueType → ℕ
bits_of I32 = 32
bits_of I64 = 64

-- the low bits that the type has
abbrev pub low : ValueType → ℕ → ℕ
low kind x = x % 2 ^ bits_of kind

abbrev pub signed : ValueType → ℕ → ℤ
signed kind x = cast_signed (width kind) (low kind x)

abbrev pub unsigned : ValueType → ℤ → ℕ
unsigned kind z = cast_unsigned (width kind) z

abbrev pub flag : Bool → ℕ
flag is = cond is 1 0

abbrev pub equals_zero : ValueType → ℕ → ℕ
equals_zero kind x = flag (nat_eq (low kind x) 0)

abbrev pub compare : ValueType → Comparison → ℕ → ℕ → ℕ
compare kind Eq x y = flag (nat_eq (low kind x) (low kind y))
compare kind Ne x y = flag (not (nat_eq (low kind x) (low kind y)))
compare kind LtS x y = flag (int_lt (signed kind x) (signed kind y))
compare kind LtU x y = flag (nat_lt (low kind x) (low kind y))
compare kind GtS x y = flag (int_lt (signed kind y) (signed kind x))
compare kind GtU x y = flag (nat_lt (low kind y) (low kind x))
compare kind LeS x y = flag (not (int_lt (signed kind y) (signed kind x)))
compare kind LeU x y = flag (nat_le (low kind x) (low kind y))
compare kind GeS x y = flag (not (int_lt (signed kind x) (signed kind y)))
compare kind GeU x y = flag (nat_le (low kind y) (low kind x))

abbrev pub unary : ValueType → UnaryOperator → ℕ → ℕ
unary kind Clz x = leading_zeros (width kind) (low kind x)
unary kind Ctz x = trailing_zeros (width kind) (low kind x)
unary kind Popcnt x = count_ones (low kind x)

abbrev pub unless_zero : ℕ → Result ℕ Trap → Result ℕ Trap
unless_zero y answer = cond (nat_eq y 0) (Err DivideByZero) answer

-- a quotient that no signed integer of the type is
abbrev pub is_too_large : ValueType → ℤ → Bool
is_too_large kind (pos n) = nat_le (2 ^ (bits_of kind - 1)) n
is_too_large kind (negsuc n) = false

abbrev pub quotient : ValueType → ℤ → Result ℕ Trap
quotient kind z = cond (is_too_large kind z) (Err Overflow) (Ok (unsigned kind z))

-- by how much a shift or a rotation moves
abbrev pub shift : ValueType → ℕ → ℕ
shift kind y = low kind y % bits_of kind

abbrev pub binary : ValueType → BinaryOperator → ℕ → ℕ → Result ℕ Trap
binary kind Add x y = Ok (low kind (x + y))
binary kind Sub x y = Ok (low kind (low kind x + 2 ^ bits_of kind - low kind y))
binary kind Mul x y = Ok (low kind (x * y))
binary kind DivS x y = unless_zero (low kind y) (quotient kind (int_div (signed kind x) (signed kind y)))
binary kind DivU x y = unless_zero (low kind y) (Ok (low kind x / low kind y))
binary kind RemS x y = unless_zero (low kind y) (Ok (unsigned kind (int_rem (signed kind x) (signed kind y))))
binary kind RemU x y = unless_zero (low kind y) (Ok (low kind x % low kind y))
binary kind And x y = Ok (bit_and (low kind x) (low kind y))
binary kind Or x y = Ok (bit_or (low kind x) (low kind y))
binary kind Xor x y = Ok (bit_xor (low kind x) (low kind y))
binary kind Shl x y = Ok (low kind (x * 2 ^ shift kind y))
binary kind ShrS x y = Ok (unsigned kind (int_shr (signed kind x) (shift kind y)))
binary kind ShrU x y = Ok (low kind x / 2 ^ shift kind y)
binary kind Rotl x y = Ok (rotate_left (width kind) (low kind x) (shift kind y))
binary kind Rotr x y = Ok (rotate_right (width kind) (low kind x) (shift kind y))

abbrev pub convert : Conversion → ℕ → ℕ
convert Wrap x = low I32 x
convert ExtendS x = unsigned I64 (signed I32 x)
convert ExtendU x = low I32 x
