-- The rules over flat code, with the blocks that are open.
use Rattle.std.proofs.Common.{◌≡◌, ℕ, zero, suc, List, [], ◌∷◌, ◌++◌, slice_get, reverse, Option, None}
use Rattle.std.specs.Prelude.{⊤}
use Rattle.wasm_tree.specs.declared.rule.Rule.{Rule}
use Rattle.wasm_tree.specs.declared.rule.Rule.TheVariants as rule
use Rattle.wasm_tree.specs.declared.types.ValueType.{ValueType}
use Rattle.wasm_tree.specs.declared.types.ValueType.TheVariants.{I32}
use Rattle.wasm_tree.specs.declared.types.FunctionType.{FunctionType}
use Rattle.wasm_tree.specs.declared.op.Op.{Op}
use Rattle.wasm_tree.specs.declared.op.Op.TheVariants as op
use Rattle.wasm_tree.specs.Rules.{Context, IsFound, StartsWith, Takes, HasTable, type_of, results_of}
use Rattle.wasm_tree.specs.Typing.{IsPlainTyped, IsTarget}
use Rattle.wasm_valid.specs.declared.blocks.Opener.{Opener}
use Rattle.wasm_valid.specs.declared.blocks.Opener.TheVariants as opener
use Rattle.wasm_valid.specs.Blocks.{label_by}

-- An open block, with the operands below it.
pub record Frame : Type 0 where
  pub opener : Opener
  pub result : Option ValueType
  pub below : List ValueType

abbrev pub frame : Opener → Option ValueType → List ValueType → Frame
frame o kind below = record { opener = o; result = kind; below = below }

-- An instruction comes next, or so many labels of a `br_table` and its last one, which take these results.
pub data Place : Type 0 where
  Usual : Place
  Owes : ℕ → List ValueType → Place

abbrev pub EndsBy : Opener → Option ValueType → Type 0
EndsBy opener.Block kind = ⊤
EndsBy opener.Loop kind = ⊤
EndsBy opener.If kind = kind ≡ None
EndsBy opener.Else kind = ⊤

module _ (asked : Rule → Type 0) (c : Context) where
  abbrev pub labels_of : List Frame → List (List ValueType)
  labels_of [] = c.labels
  labels_of (f ∷ frames) = results_of (label_by f.opener f.result) ∷ labels_of frames

  abbrev pub within : List Frame → Context
  within frames = record { within = c.within; locals = c.locals; labels = labels_of frames; results = c.results }

  abbrev pub After : Type 1
  After = Place → List Frame → List ValueType → Type 0

  abbrev pub Ends : List Frame → List ValueType → After → Type 0
  Ends [] before Rest = ⊥
  Ends (f ∷ frames) before Rest = (asked rule.Result → before ≡ results_of f.result) × (asked rule.Result → EndsBy f.opener f.result) × Rest Usual frames (results_of f.result ++ f.below)

  abbrev pub IsIf : Opener → Type 0
  IsIf opener.Block = ⊥
  IsIf opener.Loop = ⊥
  IsIf opener.If = ⊤
  IsIf opener.Else = ⊥

  abbrev pub Turns : List Frame → List ValueType → After → Type 0
  Turns [] before Rest = ⊥
  Turns (f ∷ frames) before Rest = IsIf f.opener × (asked rule.Result → before ≡ results_of f.result) × Rest Usual (frame opener.Else f.result f.below ∷ frames) []

  -- What an instruction asks of the operands before it, and of what comes after it.
  abbrev pub Does : Op → List Frame → List ValueType → After → Type 0
  Does (op.Plain p) frames before Rest = (mid : List ValueType) × IsPlainTyped asked (within frames) p before mid × Rest Usual frames mid
  Does op.Unreachable frames before Rest = (any : List ValueType) × Rest Usual frames any
  Does (op.Block kind) frames before Rest = Rest Usual (frame opener.Block kind before ∷ frames) []
  Does (op.Loop kind) frames before Rest = Rest Usual (frame opener.Loop kind before ∷ frames) []
  Does (op.If kind) frames before Rest = (mid : List ValueType) × Takes asked (I32 ∷ []) [] before mid × Rest Usual (frame opener.If kind mid ∷ frames) []
  Does op.Else frames before Rest = Turns frames before Rest
  Does op.End frames before Rest = Ends frames before Rest
  Does (op.Br label) frames before Rest =
      (results : List ValueType) × IsFound (asked rule.Label) (slice_get (labels_of frames) label) results × (asked rule.Operand → StartsWith results before)
      × (any : List ValueType) × Rest Usual frames any
  Does (op.BrIf label) frames before Rest =
      (results : List ValueType) × IsFound (asked rule.Label) (slice_get (labels_of frames) label) results
      × (mid : List ValueType) × Takes asked (I32 ∷ results) results before mid × Rest Usual frames mid
  Does (op.BrTable count) frames before Rest = (results : List ValueType) × Rest (Owes count results) frames before
  Does (op.Target label) frames before Rest = ⊥
  Does op.Return frames before Rest = (asked rule.Operand → StartsWith c.results before) × (any : List ValueType) × Rest Usual frames any
  Does (op.Call f) frames before Rest =
      (t : FunctionType) × IsFound (asked rule.Index) (type_of c.within f) t
      × (mid : List ValueType) × Takes asked (reverse t.params) (reverse t.results) before mid × Rest Usual frames mid
  Does (op.CallIndirect x) frames before Rest =
      (asked rule.Index → HasTable c.within) × (t : FunctionType) × IsFound (asked rule.Index) (slice_get c.within.types x) t
      × (mid : List ValueType) × Takes asked (I32 ∷ reverse t.params) (reverse t.results) before mid × Rest Usual frames mid

  -- A label of a `br_table`, after which so many come besides the last one.
  abbrev pub Targets : ℕ → List ValueType → ℕ → List Frame → List ValueType → After → Type 0
  Targets zero results label frames before Rest =
      IsFound (asked rule.Label) (slice_get (labels_of frames) label) results × (asked rule.Operand → StartsWith (I32 ∷ results) before) × (any : List ValueType) × Rest Usual frames any
  Targets (suc n) results label frames before Rest = IsTarget asked (labels_of frames) results label × Rest (Owes n results) frames before

  abbrev pub Owed : ℕ → List ValueType → Op → List Frame → List ValueType → After → Type 0
  Owed n results (op.Target label) frames before Rest = Targets n results label frames before Rest
  Owed n results other frames before Rest = ⊥

  abbrev pub Next : Place → Op → List Frame → List ValueType → After → Type 0
  Next Usual o frames before Rest = Does o frames before Rest
  Next (Owes n results) o frames before Rest = Owed n results o frames before Rest

  abbrev pub Last : Place → List Frame → List ValueType → Type 0
  Last Usual [] before = asked rule.Result → before ≡ c.results
  Last Usual (f ∷ frames) before = ⊥
  Last (Owes n results) frames before = ⊥

  -- The code is typed from these operands on, in these blocks, up to the end of the body.
  abbrev pub Runs : List Op → Place → List Frame → List ValueType → Type 0
  Runs [] place frames before = Last place frames before
  Runs (o ∷ ops) place frames before = Next place o frames before (Runs ops)
