-- The codes of instructions: WebAssembly Core 1.0 section 5.4.
use Rattle.std.specs.Prelude.{ℕ}
use Rattle.wasm_tree.specs.declared.types.ValueType.{ValueType}
use Rattle.wasm_tree.specs.declared.types.ValueType.TheVariants.{I32, I64}
use Rattle.wasm_tree.specs.declared.op.Comparison.{Comparison}
use Rattle.wasm_tree.specs.declared.op.Comparison.TheVariants.{Eq, Ne, LtS, LtU, GtS, GtU, LeS, LeU, GeS, GeU}
use Rattle.wasm_tree.specs.declared.op.UnaryOperator.{UnaryOperator}
use Rattle.wasm_tree.specs.declared.op.UnaryOperator.TheVariants.{Clz, Ctz, Popcnt}
use Rattle.wasm_tree.specs.declared.op.BinaryOperator.{BinaryOperator}
use Rattle.wasm_tree.specs.declared.op.BinaryOperator.TheVariants.{Add, Sub, Mul, DivS, DivU, RemS, RemU, And, Or, Xor, Shl, ShrS, ShrU, Rotl, Rotr}
use Rattle.wasm_tree.specs.declared.op.Conversion.{Conversion}
use Rattle.wasm_tree.specs.declared.op.Conversion.TheVariants.{Wrap, ExtendS, ExtendU}
use Rattle.wasm_tree.specs.declared.op.LoadKind.{LoadKind}
use Rattle.wasm_tree.specs.declared.op.LoadKind.TheVariants as load
use Rattle.wasm_tree.specs.declared.op.StoreKind.{StoreKind}
use Rattle.wasm_tree.specs.declared.op.StoreKind.TheVariants as store

abbrev pub load_code : LoadKind → ℕ
load_code load.I32 = 0x28
load_code load.I64 = 0x29
load_code load.I32From8S = 0x2c
load_code load.I32From8U = 0x2d
load_code load.I32From16S = 0x2e
load_code load.I32From16U = 0x2f
load_code load.I64From8S = 0x30
load_code load.I64From8U = 0x31
load_code load.I64From16S = 0x32
load_code load.I64From16U = 0x33
load_code load.I64From32S = 0x34
load_code load.I64From32U = 0x35

abbrev pub store_code : StoreKind → ℕ
store_code store.I32 = 0x36
store_code store.I64 = 0x37
store_code store.I32To8 = 0x3a
store_code store.I32To16 = 0x3b
store_code store.I64To8 = 0x3c
store_code store.I64To16 = 0x3d
store_code store.I64To32 = 0x3e

abbrev pub equals_zero_code : ValueType → ℕ
equals_zero_code I32 = 0x45
equals_zero_code I64 = 0x50

-- The comparisons, the unary and the binary operators of one type stand in a row.

abbrev pub first_comparison : ValueType → ℕ
first_comparison I32 = 0x46
first_comparison I64 = 0x51

abbrev pub comparison_place : Comparison → ℕ
comparison_place Eq = 0
comparison_place Ne = 1
comparison_place LtS = 2
comparison_place LtU = 3
comparison_place GtS = 4
comparison_place GtU = 5
comparison_place LeS = 6
comparison_place LeU = 7
comparison_place GeS = 8
comparison_place GeU = 9

abbrev pub first_unary : ValueType → ℕ
first_unary I32 = 0x67
first_unary I64 = 0x79

abbrev pub unary_place : UnaryOperator → ℕ
unary_place Clz = 0
unary_place Ctz = 1
unary_place Popcnt = 2

abbrev pub first_binary : ValueType → ℕ
first_binary I32 = 0x6a
first_binary I64 = 0x7c

abbrev pub binary_place : BinaryOperator → ℕ
binary_place Add = 0
binary_place Sub = 1
binary_place Mul = 2
binary_place DivS = 3
binary_place DivU = 4
binary_place RemS = 5
binary_place RemU = 6
binary_place And = 7
binary_place Or = 8
binary_place Xor = 9
binary_place Shl = 10
binary_place ShrS = 11
binary_place ShrU = 12
binary_place Rotl = 13
binary_place Rotr = 14

abbrev pub conversion_code : Conversion → ℕ
conversion_code Wrap = 0xa7
conversion_code ExtendS = 0xac
conversion_code ExtendU = 0xad
