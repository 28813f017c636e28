-- The typing of code: WebAssembly Core 1.0 section 3.3, where these rules are asked for.
use Rattle.std.specs.Prelude.{◌≡◌, ◌≤◌, ◌<◌, ℕ, List, [], ◌∷◌, ◌++◌, length, reverse, slice_get, None, IfSome, true}
use Rattle.std.specs.List.{AllByRecursion}
use Rattle.wasm_tree.specs.declared.rule.Rule.{Rule}
use Rattle.wasm_tree.specs.declared.rule.Rule.TheVariants as rule
use Rattle.wasm_tree.specs.declared.types.ValueType.{ValueType}
use Rattle.wasm_tree.specs.declared.types.ValueType.TheVariants.{I32, I64}
use Rattle.wasm_tree.specs.declared.types.FunctionType.{FunctionType}
use Rattle.wasm_tree.specs.declared.types.GlobalType.{GlobalType}
use Rattle.wasm_tree.specs.declared.op.Conversion.TheVariants.{Wrap, ExtendS, ExtendU}
use Rattle.wasm_tree.specs.declared.op.Plain.{Plain}
use Rattle.wasm_tree.specs.declared.op.Plain.TheVariants as plain
use Rattle.wasm_tree.specs.Code.{Code, Stop, Then, Unreachable, Block, Loop, If, IfElse, Br, BrIf, BrTable, Return, Call, CallIndirect}
use Rattle.wasm_tree.specs.Rules.{Context, inside, IsFound, StartsWith, Takes, HasMemory, HasTable, type_of, global_of, results_of, load_type, load_align, store_type, store_align}

module _ (asked : Rule → Type 0) where
  -- `select` gives the kind of the first of its two operands, where that one is there.
  pub record IsSelected (before after : List ValueType) : Type 0 where
    pub kind : ValueType
    pub first : IfSome (slice_get before 1) (λ found. found ≡ kind)
    pub taken : Takes asked (I32 ∷ kind ∷ kind ∷ []) (kind ∷ []) before after

  -- A plain instruction leads from the operands before to those after.
  abbrev pub IsPlainTyped : Context → Plain → List ValueType → List ValueType → Type 0
  IsPlainTyped c plain.Nop before after = Takes asked [] [] before after
  IsPlainTyped c plain.Drop before after = (kind : ValueType) × Takes asked (kind ∷ []) [] before after
  IsPlainTyped c plain.Select before after = IsSelected before after
  IsPlainTyped c (plain.LocalGet x) before after = (kind : ValueType) × IsFound (asked rule.Index) (slice_get c.locals x) kind × Takes asked [] (kind ∷ []) before after
  IsPlainTyped c (plain.LocalSet x) before after = (kind : ValueType) × IsFound (asked rule.Index) (slice_get c.locals x) kind × Takes asked (kind ∷ []) [] before after
  IsPlainTyped c (plain.LocalTee x) before after = (kind : ValueType) × IsFound (asked rule.Index) (slice_get c.locals x) kind × Takes asked (kind ∷ []) (kind ∷ []) before after
  IsPlainTyped c (plain.GlobalGet x) before after = (g : GlobalType) × IsFound (asked rule.Index) (global_of c.within x) g × Takes asked [] (g.kind ∷ []) before after
  IsPlainTyped c (plain.GlobalSet x) before after =
      (g : GlobalType) × IsFound (asked rule.Index) (global_of c.within x) g × (asked rule.Mutable → g.mutable ≡ true) × Takes asked (g.kind ∷ []) [] before after
  IsPlainTyped c (plain.Load kind a) before after =
      (asked rule.Index → HasMemory c.within) × (asked rule.Align → a.align ≤ load_align kind) × Takes asked (I32 ∷ []) (load_type kind ∷ []) before after
  IsPlainTyped c (plain.Store kind a) before after =
      (asked rule.Index → HasMemory c.within) × (asked rule.Align → a.align ≤ store_align kind) × Takes asked (store_type kind ∷ I32 ∷ []) [] before after
  IsPlainTyped c plain.MemorySize before after = (asked rule.Index → HasMemory c.within) × Takes asked [] (I32 ∷ []) before after
  IsPlainTyped c plain.MemoryGrow before after = (asked rule.Index → HasMemory c.within) × Takes asked (I32 ∷ []) (I32 ∷ []) before after
  IsPlainTyped c (plain.I32Const z) before after = Takes asked [] (I32 ∷ []) before after
  IsPlainTyped c (plain.I64Const z) before after = Takes asked [] (I64 ∷ []) before after
  IsPlainTyped c (plain.EqualsZero kind) before after = Takes asked (kind ∷ []) (I32 ∷ []) before after
  IsPlainTyped c (plain.Compare kind o) before after = Takes asked (kind ∷ kind ∷ []) (I32 ∷ []) before after
  IsPlainTyped c (plain.Unary kind o) before after = Takes asked (kind ∷ []) (kind ∷ []) before after
  IsPlainTyped c (plain.Binary kind o) before after = Takes asked (kind ∷ kind ∷ []) (kind ∷ []) before after
  IsPlainTyped c (plain.Convert Wrap) before after = Takes asked (I64 ∷ []) (I32 ∷ []) before after
  IsPlainTyped c (plain.Convert ExtendS) before after = Takes asked (I32 ∷ []) (I64 ∷ []) before after
  IsPlainTyped c (plain.Convert ExtendU) before after = Takes asked (I32 ∷ []) (I64 ∷ []) before after

  -- The label is there, and takes these results as the last label of the table does.
  pub record IsTarget (labels : List (List ValueType)) (results : List ValueType) (label : ℕ) : Type 0 where
    pub there : asked rule.Label → label < length labels
    pub same : asked rule.Operand → IfSome (slice_get labels label) (λ found. found ≡ results)

  -- From the operands before, the topmost first, the code leads to those after. A block begins without operands.
  -- After an instruction that never goes on, any operands may be supposed.
  abbrev pub IsTyped : Context → List ValueType → Code → List ValueType → Type 0
  IsTyped c before Stop after = asked rule.Result → before ≡ after
  IsTyped c before (Then p rest) after = (mid : List ValueType) × IsPlainTyped c p before mid × IsTyped c mid rest after
  IsTyped c before (Unreachable rest) after = (any : List ValueType) × IsTyped c any rest after
  IsTyped c before (Block kind body rest) after =
      IsTyped (inside c (results_of kind)) [] body (results_of kind) × IsTyped c (results_of kind ++ before) rest after
  IsTyped c before (Loop kind body rest) after =
      IsTyped (inside c []) [] body (results_of kind) × IsTyped c (results_of kind ++ before) rest after
  IsTyped c before (If kind first rest) after =
      (mid : List ValueType) × Takes asked (I32 ∷ []) [] before mid × (asked rule.Result → kind ≡ None)
      × IsTyped (inside c (results_of kind)) [] first (results_of kind) × IsTyped c (results_of kind ++ mid) rest after
  IsTyped c before (IfElse kind first second rest) after =
      (mid : List ValueType) × Takes asked (I32 ∷ []) [] before mid × IsTyped (inside c (results_of kind)) [] first (results_of kind)
      × IsTyped (inside c (results_of kind)) [] second (results_of kind) × IsTyped c (results_of kind ++ mid) rest after
  IsTyped c before (Br label rest) after =
      (results : List ValueType) × IsFound (asked rule.Label) (slice_get c.labels label) results × (asked rule.Operand → StartsWith results before)
      × (any : List ValueType) × IsTyped c any rest after
  IsTyped c before (BrIf label rest) after =
      (results : List ValueType) × IsFound (asked rule.Label) (slice_get c.labels label) results
      × (mid : List ValueType) × Takes asked (I32 ∷ results) results before mid × IsTyped c mid rest after
  IsTyped c before (BrTable labels last rest) after =
      (results : List ValueType) × IsFound (asked rule.Label) (slice_get c.labels last) results × AllByRecursion (IsTarget c.labels results) labels
      × (asked rule.Operand → StartsWith (I32 ∷ results) before) × (any : List ValueType) × IsTyped c any rest after
  IsTyped c before (Return rest) after = (asked rule.Operand → StartsWith c.results before) × (any : List ValueType) × IsTyped c any rest after
  IsTyped c before (Call f rest) after =
      (t : FunctionType) × IsFound (asked rule.Index) (type_of c.within f) t
      × (mid : List ValueType) × Takes asked (reverse t.params) (reverse t.results) before mid × IsTyped c mid rest after
  IsTyped c before (CallIndirect x rest) after =
      (asked rule.Index → HasTable c.within) × (t : FunctionType) × IsFound (asked rule.Index) (slice_get c.within.types x) t
      × (mid : List ValueType) × Takes asked (I32 ∷ reverse t.params) (reverse t.results) before mid × IsTyped c mid rest after
