-- The binary format: WebAssembly Core 1.0 section 5, within the profile. Numbers may be padded.
use Rattle.std.specs.Prelude.{◌≡◌, ℕ, ◌+◌, ◌<◌, ◌^◌, List, [], ◌∷◌, Option, Some, None, Bool, true, false, IsUtf8}
use Rattle.std.specs.List.{sum_by}
use Rattle.wasm_tree.specs.declared.types.ValueType.{ValueType}
use Rattle.wasm_tree.specs.declared.types.ValueType.TheVariants.{I32, I64}
use Rattle.wasm_tree.specs.declared.types.FunctionType.{FunctionType}
use Rattle.wasm_tree.specs.declared.types.Limits.{Limits}
use Rattle.wasm_tree.specs.declared.types.GlobalType.{GlobalType}
use Rattle.wasm_tree.specs.declared.op.MemoryArgument.{MemoryArgument}
use Rattle.wasm_tree.specs.declared.op.Plain.{Plain}
use Rattle.wasm_tree.specs.declared.op.Plain.TheVariants as plain
use Rattle.wasm_tree.specs.declared.op.Op.{Op}
use Rattle.wasm_tree.specs.declared.op.Op.TheVariants as op
use Rattle.wasm_tree.specs.declared.module_parts.ImportKind.{ImportKind}
use Rattle.wasm_tree.specs.declared.module_parts.ImportKind.TheVariants as «import»
use Rattle.wasm_tree.specs.declared.module_parts.Import.{Import}
use Rattle.wasm_tree.specs.declared.module_parts.Locals.{Locals}
use Rattle.wasm_tree.specs.declared.module_parts.Function.{Function}
use Rattle.wasm_tree.specs.declared.module_parts.Global.{Global}
use Rattle.wasm_tree.specs.declared.module_parts.ExportKind.{ExportKind}
use Rattle.wasm_tree.specs.declared.module_parts.ExportKind.TheVariants as export
use Rattle.wasm_tree.specs.declared.module_parts.Export.{Export}
use Rattle.wasm_tree.specs.declared.module_parts.ElementSegment.{ElementSegment}
use Rattle.wasm_tree.specs.declared.module_parts.DataSegment.{DataSegment}
use Rattle.wasm_tree.specs.declared.module_parts.Module.{Module}
use Rattle.wasm_tree.specs.Spelling.{Exactly, IsByte, Then, IsU32, IsS32, IsS64, IsEach, IsVector, IsSized, IsSection, IsVectorSection, IsByteVector, IsMany}
use Rattle.wasm_tree.specs.Code.{Code, IsFlat}
use Rattle.wasm_tree.specs.Opcodes.{load_code, store_code, equals_zero_code, first_comparison, comparison_place, first_unary, unary_place, first_binary, binary_place, conversion_code}

-- Types, section 5.3.

abbrev pub value_type_code : ValueType → ℕ
value_type_code I32 = 0x7f
value_type_code I64 = 0x7e

abbrev pub IsValueType : ValueType → List ℕ → Type 0
IsValueType kind = IsByte (value_type_code kind)

abbrev pub IsFunctionType : FunctionType → List ℕ → Type 0
IsFunctionType t = Then (IsByte 0x60) (Then (IsVector IsValueType t.params) (IsVector IsValueType t.results))

abbrev pub IsMinMax : ℕ → Option ℕ → List ℕ → Type 0
IsMinMax min None = Then (IsByte 0x00) (IsU32 min)
IsMinMax min (Some max) = Then (IsByte 0x01) (Then (IsU32 min) (IsU32 max))

abbrev pub IsLimits : Limits → List ℕ → Type 0
IsLimits l = IsMinMax l.min l.max

-- a table of functions
abbrev pub IsTable : Limits → List ℕ → Type 0
IsTable l = Then (IsByte 0x70) (IsLimits l)

abbrev pub mutability_code : Bool → ℕ
mutability_code false = 0x00
mutability_code true = 0x01

abbrev pub IsGlobalType : GlobalType → List ℕ → Type 0
IsGlobalType g = Then (IsValueType g.kind) (IsByte (mutability_code g.mutable))

-- Names, section 5.2.4: text in UTF-8, behind the number of its bytes.
pub record IsName (name bytes : List ℕ) : Type 0 where
  pub text : IsUtf8 name
  pub spells : IsByteVector name bytes

-- Instructions, section 5.4.

-- no result, or one
abbrev pub IsBlockType : Option ValueType → List ℕ → Type 0
IsBlockType None = IsByte 0x40
IsBlockType (Some kind) = IsValueType kind

-- a code, and the alignment and the offset of an access
abbrev pub IsAccess : ℕ → MemoryArgument → List ℕ → Type 0
IsAccess code a = Then (IsByte code) (Then (IsU32 a.align) (IsU32 a.offset))

-- a code, and an index
abbrev pub IsIndexed : ℕ → ℕ → List ℕ → Type 0
IsIndexed code index = Then (IsByte code) (IsU32 index)

abbrev pub IsPlain : Plain → List ℕ → Type 0
IsPlain plain.Nop = IsByte 0x01
IsPlain plain.Drop = IsByte 0x1a
IsPlain plain.Select = IsByte 0x1b
IsPlain (plain.LocalGet x) = IsIndexed 0x20 x
IsPlain (plain.LocalSet x) = IsIndexed 0x21 x
IsPlain (plain.LocalTee x) = IsIndexed 0x22 x
IsPlain (plain.GlobalGet x) = IsIndexed 0x23 x
IsPlain (plain.GlobalSet x) = IsIndexed 0x24 x
IsPlain (plain.Load kind a) = IsAccess (load_code kind) a
IsPlain (plain.Store kind a) = IsAccess (store_code kind) a
IsPlain plain.MemorySize = Exactly (0x3f ∷ 0x00 ∷ [])
IsPlain plain.MemoryGrow = Exactly (0x40 ∷ 0x00 ∷ [])
IsPlain (plain.I32Const z) = Then (IsByte 0x41) (IsS32 z)
IsPlain (plain.I64Const z) = Then (IsByte 0x42) (IsS64 z)
IsPlain (plain.EqualsZero kind) = IsByte (equals_zero_code kind)
IsPlain (plain.Compare kind c) = IsByte (first_comparison kind + comparison_place c)
IsPlain (plain.Unary kind o) = IsByte (first_unary kind + unary_place o)
IsPlain (plain.Binary kind o) = IsByte (first_binary kind + binary_place o)
IsPlain (plain.Convert c) = IsByte (conversion_code c)

-- `br_table` says how many labels follow besides the last one, and each of them is a number.
abbrev pub IsOp : Op → List ℕ → Type 0
IsOp (op.Plain p) = IsPlain p
IsOp op.Unreachable = IsByte 0x00
IsOp (op.Block kind) = Then (IsByte 0x02) (IsBlockType kind)
IsOp (op.Loop kind) = Then (IsByte 0x03) (IsBlockType kind)
IsOp (op.If kind) = Then (IsByte 0x04) (IsBlockType kind)
IsOp op.Else = IsByte 0x05
IsOp op.End = IsByte 0x0b
IsOp (op.Br l) = IsIndexed 0x0c l
IsOp (op.BrIf l) = IsIndexed 0x0d l
IsOp (op.BrTable count) = IsIndexed 0x0e count
IsOp (op.Target l) = IsU32 l
IsOp op.Return = IsByte 0x0f
IsOp (op.Call f) = IsIndexed 0x10 f
IsOp (op.CallIndirect t) = Then (IsByte 0x11) (Then (IsU32 t) (IsByte 0x00))

-- The list is that of a tree, each instruction stands there in turn, and `end` comes last (section 5.4.7).
pub record IsExpression (ops : List Op) (bytes : List ℕ) : Type 0 where
  pub tree : Code
  pub nested : IsFlat ops tree
  pub spells : Then (IsEach IsOp ops) (IsByte 0x0b) bytes

-- Parts, section 5.5.

abbrev pub IsImportKind : ImportKind → List ℕ → Type 0
IsImportKind («import».Function signature) = Then (IsByte 0x00) (IsU32 signature)
IsImportKind («import».Table l) = Then (IsByte 0x01) (IsTable l)
IsImportKind («import».Memory l) = Then (IsByte 0x02) (IsLimits l)
IsImportKind («import».Global g) = Then (IsByte 0x03) (IsGlobalType g)

abbrev pub IsImport : Import → List ℕ → Type 0
IsImport i = Then (IsName i.«module») (Then (IsName i.name) (IsImportKind i.kind))

abbrev pub IsSignature : Function → List ℕ → Type 0
IsSignature f = IsU32 f.signature

abbrev pub IsGlobal : Global → List ℕ → Type 0
IsGlobal g = Then (IsGlobalType g.kind) (IsExpression g.init)

abbrev pub IsExportKind : ExportKind → List ℕ → Type 0
IsExportKind (export.Function f) = Then (IsByte 0x00) (IsU32 f)
IsExportKind (export.Table t) = Then (IsByte 0x01) (IsU32 t)
IsExportKind (export.Memory m) = Then (IsByte 0x02) (IsU32 m)
IsExportKind (export.Global g) = Then (IsByte 0x03) (IsU32 g)

abbrev pub IsExport : Export → List ℕ → Type 0
IsExport e = Then (IsName e.name) (IsExportKind e.kind)

abbrev pub IsElement : ElementSegment → List ℕ → Type 0
IsElement s = Then (IsU32 s.table) (Then (IsExpression s.offset) (IsVector IsU32 s.functions))

abbrev pub IsLocals : Locals → List ℕ → Type 0
IsLocals l = Then (IsU32 l.count) (IsValueType l.kind)

-- A body has fewer than 2^32 locals (section 5.5.13).
pub record IsBody (f : Function) (bytes : List ℕ) : Type 0 where
  pub few : sum_by (λ l. l.count) f.locals < 2 ^ 32
  pub spells : Then (IsVector IsLocals f.locals) (IsExpression f.body) bytes

abbrev pub IsCode : Function → List ℕ → Type 0
IsCode f = IsSized (IsBody f)

abbrev pub IsData : DataSegment → List ℕ → Type 0
IsData s = Then (IsU32 s.memory) (Then (IsExpression s.offset) (IsByteVector s.bytes))

-- the start section stands exactly where there is a start function
abbrev pub IsStart : Option ℕ → List ℕ → Type 0
IsStart None bytes = bytes ≡ []
IsStart (Some f) bytes = IsSection 8 (IsU32 f) bytes

-- a custom section has a name and any bytes (section 5.5.3)
abbrev pub IsCustom : List ℕ × List ℕ → List ℕ → Type 0
IsCustom c = IsSection 0 (Then (IsName c.0) (Exactly c.1))

-- custom sections may stand before each section and after the last one
abbrev pub After : (List ℕ → Type 0) → List ℕ → Type 0
After P = Then (IsMany IsCustom) P

abbrev pub header : List ℕ
header = 0x00 ∷ 0x61 ∷ 0x73 ∷ 0x6d ∷ 0x01 ∷ 0x00 ∷ 0x00 ∷ 0x00 ∷ []

-- The bytes spell the module (section 5.5.15).
abbrev pub Written : Module → List ℕ → Type 0
Written m =
    Then (Exactly header)
    (Then (After (IsVectorSection 1 IsFunctionType m.types))
    (Then (After (IsVectorSection 2 IsImport m.imports))
    (Then (After (IsVectorSection 3 IsSignature m.functions))
    (Then (After (IsVectorSection 4 IsTable m.tables))
    (Then (After (IsVectorSection 5 IsLimits m.memories))
    (Then (After (IsVectorSection 6 IsGlobal m.globals))
    (Then (After (IsVectorSection 7 IsExport m.exports))
    (Then (After (IsStart m.start))
    (Then (After (IsVectorSection 9 IsElement m.elements))
    (Then (After (IsVectorSection 10 IsCode m.functions))
    (Then (After (IsVectorSection 11 IsData m.segments))
    (IsMany IsCustom))))))))))))
