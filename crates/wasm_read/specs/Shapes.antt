-- What follows each first byte of an instruction: WebAssembly Core 1.0 section 5.4, and the codes of instructions on
-- floats, which the profile leaves out.
use Rattle.std.specs.Prelude.{ℕ, List, [], ◌∷◌, ◌++◌, map, replicate, Option, Some, None, slice_get}
use Rattle.wasm_tree.specs.declared.types.ValueType.{ValueType}
use Rattle.wasm_tree.specs.declared.types.ValueType.TheVariants.{I32, I64}
use Rattle.wasm_tree.specs.declared.op.Comparison.TheVariants.{Eq, Ne, LtS, LtU, GtS, GtU, LeS, LeU, GeS, GeU}
use Rattle.wasm_tree.specs.declared.op.UnaryOperator.TheVariants.{Clz, Ctz, Popcnt}
use Rattle.wasm_tree.specs.declared.op.BinaryOperator.TheVariants.{Add, Sub, Mul, DivS, DivU, RemS, RemU, And, Or, Xor, Shl, ShrS, ShrU, Rotl, Rotr}
use Rattle.wasm_tree.specs.declared.op.Conversion.TheVariants.{Wrap, ExtendS, ExtendU}
use Rattle.wasm_tree.specs.declared.op.LoadKind.TheVariants as load
use Rattle.wasm_tree.specs.declared.op.StoreKind.TheVariants as store
use Rattle.wasm_tree.specs.declared.op.Plain.{Plain}
use Rattle.wasm_tree.specs.declared.op.Plain.TheVariants as plain
use Rattle.wasm_tree.specs.declared.op.Op.TheVariants as op
use Rattle.wasm_read.specs.declared.shape.Shape.{Shape}
use Rattle.wasm_read.specs.declared.shape.Shape.TheVariants as shape

abbrev pub one : Plain → Shape
one p = shape.Whole (op.Plain p)

abbrev pub tests : ValueType → List Shape
tests kind = map one (plain.EqualsZero kind ∷ map (plain.Compare kind) (Eq ∷ Ne ∷ LtS ∷ LtU ∷ GtS ∷ GtU ∷ LeS ∷ LeU ∷ GeS ∷ GeU ∷ []))

abbrev pub operators : ValueType → List Shape
operators kind = map one (map (plain.Unary kind) (Clz ∷ Ctz ∷ Popcnt ∷ []) ++ map (plain.Binary kind) (Add ∷ Sub ∷ Mul ∷ DivS ∷ DivU ∷ RemS ∷ RemU ∷ And ∷ Or ∷ Xor ∷ Shl ∷ ShrS ∷ ShrU ∷ Rotl ∷ Rotr ∷ []))

-- 00 to 1f
abbrev pub control : List Shape
control =
    (shape.Whole op.Unreachable ∷ one plain.Nop ∷ shape.Block ∷ shape.Loop ∷ shape.If ∷ shape.Whole op.Else ∷ [])
    ++ (replicate 5 shape.Unknown
    ++ ((shape.Whole op.End ∷ shape.Br ∷ shape.BrIf ∷ shape.BrTable ∷ shape.Whole op.Return ∷ shape.Call ∷ shape.CallIndirect ∷ [])
    ++ (replicate 8 shape.Unknown
    ++ ((one plain.Drop ∷ one plain.Select ∷ [])
    ++ replicate 4 shape.Unknown))))

-- 20 to 44
abbrev pub variables : List Shape
variables =
    (shape.LocalGet ∷ shape.LocalSet ∷ shape.LocalTee ∷ shape.GlobalGet ∷ shape.GlobalSet ∷ [])
    ++ (replicate 3 shape.Unknown
    ++ (map shape.Load (load.I32 ∷ load.I64 ∷ [])
    ++ (replicate 2 shape.Float
    ++ (map shape.Load (load.I32From8S ∷ load.I32From8U ∷ load.I32From16S ∷ load.I32From16U ∷ load.I64From8S ∷ load.I64From8U ∷ load.I64From16S ∷ load.I64From16U ∷ load.I64From32S ∷ load.I64From32U ∷ [])
    ++ (map shape.Store (store.I32 ∷ store.I64 ∷ [])
    ++ (replicate 2 shape.Float
    ++ (map shape.Store (store.I32To8 ∷ store.I32To16 ∷ store.I64To8 ∷ store.I64To16 ∷ store.I64To32 ∷ [])
    ++ ((shape.MemorySize ∷ shape.MemoryGrow ∷ shape.I32Const ∷ shape.I64Const ∷ [])
    ++ replicate 2 shape.Float))))))))

-- 45 to bf
abbrev pub numeric : List Shape
numeric =
    tests I32 ++ (tests I64 ++ (replicate 12 shape.Float ++ (operators I32 ++ (operators I64 ++ (replicate 28 shape.Float
    ++ (one (plain.Convert Wrap) ∷ replicate 4 shape.Float ++ (one (plain.Convert ExtendS) ∷ one (plain.Convert ExtendU) ∷ replicate 18 shape.Float)))))))

abbrev pub shapes : List Shape
shapes = control ++ (variables ++ (numeric ++ replicate 64 shape.Unknown))

abbrev pub shape_of : Option Shape → Shape
shape_of None = shape.Unknown
shape_of (Some s) = s

unfoldable pub shape_at : ℕ → Shape
shape_at b = shape_of (slice_get shapes b)
