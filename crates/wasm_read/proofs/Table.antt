-- Each entry of the table of first bytes stands at its code, and each instruction's code leads to it.
use Rattle.std.proofs.Common.{◌≡◌, ℕ, zero, suc, ◌+◌, List, [], ◌∷◌, refl, subst, arith}
use Rattle.std.specs.Prelude.{slice_get}
use Rattle.wasm_tree.specs.declared.types.ValueType.{ValueType}
use Rattle.wasm_tree.specs.declared.types.ValueType.TheVariants.{I32, I64}
use Rattle.wasm_tree.specs.declared.op.Comparison.{Comparison}
use Rattle.wasm_tree.specs.declared.op.Comparison.TheVariants.{Eq, Ne, LtS, LtU, GtS, GtU, LeS, LeU, GeS, GeU}
use Rattle.wasm_tree.specs.declared.op.UnaryOperator.{UnaryOperator}
use Rattle.wasm_tree.specs.declared.op.UnaryOperator.TheVariants.{Clz, Ctz, Popcnt}
use Rattle.wasm_tree.specs.declared.op.BinaryOperator.{BinaryOperator}
use Rattle.wasm_tree.specs.declared.op.BinaryOperator.TheVariants.{Add, Sub, Mul, DivS, DivU, RemS, RemU, And, Or, Xor, Shl, ShrS, ShrU, Rotl, Rotr}
use Rattle.wasm_tree.specs.declared.op.Conversion.{Conversion}
use Rattle.wasm_tree.specs.declared.op.Conversion.TheVariants.{Wrap, ExtendS, ExtendU}
use Rattle.wasm_tree.specs.declared.op.LoadKind.{LoadKind}
use Rattle.wasm_tree.specs.declared.op.LoadKind.TheVariants as load
use Rattle.wasm_tree.specs.declared.op.StoreKind.{StoreKind}
use Rattle.wasm_tree.specs.declared.op.StoreKind.TheVariants as store
use Rattle.wasm_tree.specs.declared.op.Plain.TheVariants as plain
use Rattle.wasm_tree.specs.declared.op.Op.TheVariants as op
use Rattle.wasm_tree.specs.Opcodes.{load_code, store_code, equals_zero_code, first_comparison, comparison_place, first_unary, unary_place, first_binary, binary_place, conversion_code}
use Rattle.wasm_tree.specs.Binary.{IsOp}
use Rattle.wasm_read.specs.declared.shape.Shape.{Shape}
use Rattle.wasm_read.specs.declared.shape.Shape.TheVariants as shape
use Rattle.wasm_read.specs.Shapes.{one, shapes, shape_of, shape_at}

-- The byte announces this.
abbrev pub Announces : ℕ → Shape → Type 0
Announces b (shape.Whole o) = IsOp o (b ∷ [])
Announces b (shape.Load k) = b ≡ load_code k
Announces b (shape.Store k) = b ≡ store_code k
Announces b shape.Block = b ≡ 0x02
Announces b shape.Loop = b ≡ 0x03
Announces b shape.If = b ≡ 0x04
Announces b shape.Br = b ≡ 0x0c
Announces b shape.BrIf = b ≡ 0x0d
Announces b shape.BrTable = b ≡ 0x0e
Announces b shape.Call = b ≡ 0x10
Announces b shape.LocalGet = b ≡ 0x20
Announces b shape.LocalSet = b ≡ 0x21
Announces b shape.LocalTee = b ≡ 0x22
Announces b shape.GlobalGet = b ≡ 0x23
Announces b shape.GlobalSet = b ≡ 0x24
Announces b shape.CallIndirect = b ≡ 0x11
Announces b shape.MemorySize = b ≡ 0x3f
Announces b shape.MemoryGrow = b ≡ 0x40
Announces b shape.I32Const = b ≡ 0x41
Announces b shape.I64Const = b ≡ 0x42
Announces b shape.Float = Unit {0}
Announces b shape.Unknown = Unit {0}

abbrev Each : ℕ → List Shape → Type 0
Each k [] = Unit {0}
Each k (s ∷ ss) = Announces k s × Each (suc k) ss

infixr 5 ◌&◌
abbrev ◌&◌ : {A B : Type 0} → A → B → A × B
x & y = (x, y)

-- sixteen codes a line
each : Each 0 shapes
each =
    refl & refl & refl & refl & refl & refl & tt & tt & tt & tt & tt & refl & refl & refl & refl & refl &
    refl & refl & tt & tt & tt & tt & tt & tt & tt & tt & refl & refl & tt & tt & tt & tt &
    refl & refl & refl & refl & refl & tt & tt & tt & refl & refl & tt & tt & refl & refl & refl & refl &
    refl & refl & refl & refl & refl & refl & refl & refl & tt & tt & refl & refl & refl & refl & refl & refl &
    refl & refl & refl & tt & tt & refl & refl & refl & refl & refl & refl & refl & refl & refl & refl & refl &
    refl & refl & refl & refl & refl & refl & refl & refl & refl & refl & refl & tt & tt & tt & tt & tt &
    tt & tt & tt & tt & tt & tt & tt & refl & refl & refl & refl & refl & refl & refl & refl & refl &
    refl & refl & refl & refl & refl & refl & refl & refl & refl & refl & refl & refl & refl & refl & refl & refl &
    refl & refl & refl & refl & refl & refl & refl & refl & refl & refl & refl & tt & tt & tt & tt & tt &
    tt & tt & tt & tt & tt & tt & tt & tt & tt & tt & tt & tt & tt & tt & tt & tt &
    tt & tt & tt & tt & tt & tt & tt & refl & tt & tt & tt & tt & refl & refl & tt & tt &
    tt & tt & tt & tt & tt & tt & tt & tt & tt & tt & tt & tt & tt & tt & tt & tt &
    tt & tt & tt & tt & tt & tt & tt & tt & tt & tt & tt & tt & tt & tt & tt & tt &
    tt & tt & tt & tt & tt & tt & tt & tt & tt & tt & tt & tt & tt & tt & tt & tt &
    tt & tt & tt & tt & tt & tt & tt & tt & tt & tt & tt & tt & tt & tt & tt & tt &
    tt & tt & tt & tt & tt & tt & tt & tt & tt & tt & tt & tt & tt & tt & tt & tt & tt

each_at : (ss : List Shape) (k j : ℕ) → Each k ss → Announces (k + j) (shape_of (slice_get ss j))
each_at [] k j h = tt
each_at (s ∷ ss) k zero h = let e : k ≡ k + 0 = omega arith in subst (λ n. Announces n s) e h.0
each_at (s ∷ ss) k (suc j) h = let e : suc k + j ≡ k + suc j = omega arith in subst (λ n. Announces n (shape_of (slice_get ss j))) e (each_at ss (suc k) j h.1)

pub announces : (b : ℕ) → Announces b (shape_at b)
unfolding shape_at
announces b = let e : 0 + b ≡ b = omega arith in subst (λ n. Announces n (shape_of (slice_get shapes b))) e (each_at shapes 0 b each)

pub load_shape : (k : LoadKind) → shape_at (load_code k) ≡ shape.Load k
unfolding shape_at
load_shape load.I32 = refl
load_shape load.I64 = refl
load_shape load.I32From8S = refl
load_shape load.I32From8U = refl
load_shape load.I32From16S = refl
load_shape load.I32From16U = refl
load_shape load.I64From8S = refl
load_shape load.I64From8U = refl
load_shape load.I64From16S = refl
load_shape load.I64From16U = refl
load_shape load.I64From32S = refl
load_shape load.I64From32U = refl

pub store_shape : (k : StoreKind) → shape_at (store_code k) ≡ shape.Store k
unfolding shape_at
store_shape store.I32 = refl
store_shape store.I64 = refl
store_shape store.I32To8 = refl
store_shape store.I32To16 = refl
store_shape store.I64To8 = refl
store_shape store.I64To16 = refl
store_shape store.I64To32 = refl

pub zero_shape : (k : ValueType) → shape_at (equals_zero_code k) ≡ one (plain.EqualsZero k)
unfolding shape_at
zero_shape I32 = refl
zero_shape I64 = refl

pub comparison_shape : (k : ValueType) (c : Comparison) → shape_at (first_comparison k + comparison_place c) ≡ one (plain.Compare k c)
unfolding shape_at
comparison_shape I32 Eq = refl
comparison_shape I32 Ne = refl
comparison_shape I32 LtS = refl
comparison_shape I32 LtU = refl
comparison_shape I32 GtS = refl
comparison_shape I32 GtU = refl
comparison_shape I32 LeS = refl
comparison_shape I32 LeU = refl
comparison_shape I32 GeS = refl
comparison_shape I32 GeU = refl
comparison_shape I64 Eq = refl
comparison_shape I64 Ne = refl
comparison_shape I64 LtS = refl
comparison_shape I64 LtU = refl
comparison_shape I64 GtS = refl
comparison_shape I64 GtU = refl
comparison_shape I64 LeS = refl
comparison_shape I64 LeU = refl
comparison_shape I64 GeS = refl
comparison_shape I64 GeU = refl

pub unary_shape : (k : ValueType) (o : UnaryOperator) → shape_at (first_unary k + unary_place o) ≡ one (plain.Unary k o)
unfolding shape_at
unary_shape I32 Clz = refl
unary_shape I32 Ctz = refl
unary_shape I32 Popcnt = refl
unary_shape I64 Clz = refl
unary_shape I64 Ctz = refl
unary_shape I64 Popcnt = refl

pub binary_shape : (k : ValueType) (o : BinaryOperator) → shape_at (first_binary k + binary_place o) ≡ one (plain.Binary k o)
unfolding shape_at
binary_shape I32 Add = refl
binary_shape I32 Sub = refl
binary_shape I32 Mul = refl
binary_shape I32 DivS = refl
binary_shape I32 DivU = refl
binary_shape I32 RemS = refl
binary_shape I32 RemU = refl
binary_shape I32 And = refl
binary_shape I32 Or = refl
binary_shape I32 Xor = refl
binary_shape I32 Shl = refl
binary_shape I32 ShrS = refl
binary_shape I32 ShrU = refl
binary_shape I32 Rotl = refl
binary_shape I32 Rotr = refl
binary_shape I64 Add = refl
binary_shape I64 Sub = refl
binary_shape I64 Mul = refl
binary_shape I64 DivS = refl
binary_shape I64 DivU = refl
binary_shape I64 RemS = refl
binary_shape I64 RemU = refl
binary_shape I64 And = refl
binary_shape I64 Or = refl
binary_shape I64 Xor = refl
binary_shape I64 Shl = refl
binary_shape I64 ShrS = refl
binary_shape I64 ShrU = refl
binary_shape I64 Rotl = refl
binary_shape I64 Rotr = refl

pub conversion_shape : (c : Conversion) → shape_at (conversion_code c) ≡ one (plain.Convert c)
unfolding shape_at
conversion_shape Wrap = refl
conversion_shape ExtendS = refl
conversion_shape ExtendU = refl

pub unreachable_shape : shape_at 0x00 ≡ shape.Whole op.Unreachable
unfolding shape_at
unreachable_shape = refl

pub nop_shape : shape_at 0x01 ≡ one plain.Nop
unfolding shape_at
nop_shape = refl

pub block_shape : shape_at 0x02 ≡ shape.Block
unfolding shape_at
block_shape = refl

pub loop_shape : shape_at 0x03 ≡ shape.Loop
unfolding shape_at
loop_shape = refl

pub if_shape : shape_at 0x04 ≡ shape.If
unfolding shape_at
if_shape = refl

pub else_shape : shape_at 0x05 ≡ shape.Whole op.Else
unfolding shape_at
else_shape = refl

pub end_shape : shape_at 0x0b ≡ shape.Whole op.End
unfolding shape_at
end_shape = refl

pub br_shape : shape_at 0x0c ≡ shape.Br
unfolding shape_at
br_shape = refl

pub br_if_shape : shape_at 0x0d ≡ shape.BrIf
unfolding shape_at
br_if_shape = refl

pub br_table_shape : shape_at 0x0e ≡ shape.BrTable
unfolding shape_at
br_table_shape = refl

pub return_shape : shape_at 0x0f ≡ shape.Whole op.Return
unfolding shape_at
return_shape = refl

pub call_shape : shape_at 0x10 ≡ shape.Call
unfolding shape_at
call_shape = refl

pub call_indirect_shape : shape_at 0x11 ≡ shape.CallIndirect
unfolding shape_at
call_indirect_shape = refl

pub drop_shape : shape_at 0x1a ≡ one plain.Drop
unfolding shape_at
drop_shape = refl

pub select_shape : shape_at 0x1b ≡ one plain.Select
unfolding shape_at
select_shape = refl

pub local_get_shape : shape_at 0x20 ≡ shape.LocalGet
unfolding shape_at
local_get_shape = refl

pub local_set_shape : shape_at 0x21 ≡ shape.LocalSet
unfolding shape_at
local_set_shape = refl

pub local_tee_shape : shape_at 0x22 ≡ shape.LocalTee
unfolding shape_at
local_tee_shape = refl

pub global_get_shape : shape_at 0x23 ≡ shape.GlobalGet
unfolding shape_at
global_get_shape = refl

pub global_set_shape : shape_at 0x24 ≡ shape.GlobalSet
unfolding shape_at
global_set_shape = refl

pub memory_size_shape : shape_at 0x3f ≡ shape.MemorySize
unfolding shape_at
memory_size_shape = refl

pub memory_grow_shape : shape_at 0x40 ≡ shape.MemoryGrow
unfolding shape_at
memory_grow_shape = refl

pub i32_const_shape : shape_at 0x41 ≡ shape.I32Const
unfolding shape_at
i32_const_shape = refl

pub i64_const_shape : shape_at 0x42 ≡ shape.I64Const
unfolding shape_at
i64_const_shape = refl
