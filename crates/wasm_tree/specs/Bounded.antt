-- How many bytes parts of a module take at most, so that whoever builds a module can show that it has a spelling.
use Rattle.std.specs.Prelude.{ℕ, ◌+◌, ◌<◌, ◌≤◌, ◌^◌, List, length, FitsSigned, IfSome, ⊤}
use Rattle.std.specs.Int.{w32, w64}
use Rattle.wasm_tree.specs.declared.op.Plain.{Plain}
use Rattle.wasm_tree.specs.declared.op.Plain.TheVariants as plain
use Rattle.wasm_tree.specs.declared.op.Op.{Op}
use Rattle.wasm_tree.specs.declared.op.Op.TheVariants as op
use Rattle.wasm_tree.specs.declared.module_parts.ImportKind.{ImportKind}
use Rattle.wasm_tree.specs.declared.module_parts.ImportKind.TheVariants as «import»
use Rattle.wasm_tree.specs.declared.module_parts.ExportKind.{ExportKind}
use Rattle.wasm_tree.specs.declared.module_parts.ExportKind.TheVariants as export
use Rattle.wasm_tree.specs.declared.module_parts.Module.{Module}
use Rattle.wasm_tree.specs.Spelling.{IsEach}
use Rattle.wasm_tree.specs.Binary.{IsFunctionType, IsImport, IsSignature, IsTable, IsLimits, IsGlobal, IsExport, IsElement, IsCode, IsData}

-- There is a spelling of at most so many bytes.
pub record Within (P : List ℕ → Type 0) (bound : ℕ) : Type 0 where
  pub bytes : List ℕ
  pub spells : P bytes
  pub short : length bytes ≤ bound

-- The immediates of a plain instruction fit.
abbrev pub IsSmallPlain : Plain → Type 0
IsSmallPlain plain.Nop = ⊤
IsSmallPlain plain.Drop = ⊤
IsSmallPlain plain.Select = ⊤
IsSmallPlain (plain.LocalGet x) = x < 2 ^ 32
IsSmallPlain (plain.LocalSet x) = x < 2 ^ 32
IsSmallPlain (plain.LocalTee x) = x < 2 ^ 32
IsSmallPlain (plain.GlobalGet x) = x < 2 ^ 32
IsSmallPlain (plain.GlobalSet x) = x < 2 ^ 32
IsSmallPlain (plain.Load kind a) = (a.align < 2 ^ 32) × (a.offset < 2 ^ 32)
IsSmallPlain (plain.Store kind a) = (a.align < 2 ^ 32) × (a.offset < 2 ^ 32)
IsSmallPlain plain.MemorySize = ⊤
IsSmallPlain plain.MemoryGrow = ⊤
IsSmallPlain (plain.I32Const z) = FitsSigned w32 z
IsSmallPlain (plain.I64Const z) = FitsSigned w64 z
IsSmallPlain (plain.EqualsZero kind) = ⊤
IsSmallPlain (plain.Compare kind c) = ⊤
IsSmallPlain (plain.Unary kind o) = ⊤
IsSmallPlain (plain.Binary kind o) = ⊤
IsSmallPlain (plain.Convert c) = ⊤

-- Its immediates fit.
abbrev pub IsSmallOp : Op → Type 0
IsSmallOp (op.Plain p) = IsSmallPlain p
IsSmallOp op.Unreachable = ⊤
IsSmallOp (op.Block kind) = ⊤
IsSmallOp (op.Loop kind) = ⊤
IsSmallOp (op.If kind) = ⊤
IsSmallOp op.Else = ⊤
IsSmallOp op.End = ⊤
IsSmallOp (op.Br l) = l < 2 ^ 32
IsSmallOp (op.BrIf l) = l < 2 ^ 32
IsSmallOp (op.BrTable count) = count < 2 ^ 32
IsSmallOp (op.Target l) = l < 2 ^ 32
IsSmallOp op.Return = ⊤
IsSmallOp (op.Call f) = f < 2 ^ 32
IsSmallOp (op.CallIndirect t) = t < 2 ^ 32

-- Its index or its sizes fit.
abbrev pub IsSmallImport : ImportKind → Type 0
IsSmallImport («import».Function signature) = signature < 2 ^ 32
IsSmallImport («import».Table l) = (l.min < 2 ^ 32) × IfSome l.max (λ m. m < 2 ^ 32)
IsSmallImport («import».Memory l) = (l.min < 2 ^ 32) × IfSome l.max (λ m. m < 2 ^ 32)
IsSmallImport («import».Global g) = ⊤

-- The index of what is exported.
abbrev pub exported : ExportKind → ℕ
exported (export.Function f) = f
exported (export.Table t) = t
exported (export.Memory m) = m
exported (export.Global g) = g

-- The vector's items take few enough bytes for one section.
pub record IsShort {X : Type 0} (P : X → List ℕ → Type 0) (xs : List X) : Type 0 where
  pub bound : ℕ
  pub few : length xs < 2 ^ 32
  pub small : 5 + bound < 2 ^ 32
  pub each : Within (IsEach P xs) bound

-- Each section has room for its items.
pub record HasShortParts (m : Module) : Type 0 where
  pub types : IsShort IsFunctionType m.types
  pub imports : IsShort IsImport m.imports
  pub signatures : IsShort IsSignature m.functions
  pub tables : IsShort IsTable m.tables
  pub memories : IsShort IsLimits m.memories
  pub globals : IsShort IsGlobal m.globals
  pub exports : IsShort IsExport m.exports
  pub start : IfSome m.start (λ f. f < 2 ^ 32)
  pub elements : IsShort IsElement m.elements
  pub codes : IsShort IsCode m.functions
  pub segments : IsShort IsData m.segments
