-- How the steps of a module lie: those of each body are those of its tree, one after another, with the heights of
-- operands that the rules of validation give (WebAssembly Core 1.0 section 3.3).
use Rattle.std.specs.Prelude.{◌≡◌, ℕ, suc, ◌+◌, ◌-◌, ◌<◌, ◌≤◌, ◌^◌, List, [], ◌∷◌, length, Option, Some, None, slice_get, ⊤}
use Rattle.wasm_tree.specs.declared.types.FunctionType.{FunctionType}
use Rattle.wasm_tree.specs.declared.op.Plain.{Plain}
use Rattle.wasm_tree.specs.declared.op.Plain.TheVariants as plain
use Rattle.wasm_tree.specs.declared.module_parts.Function.{Function}
use Rattle.wasm_tree.specs.declared.module_parts.Module.{Module}
use Rattle.wasm_tree.specs.Code.{Code, Stop, Then, Unreachable, Block, Loop, If, IfElse, Br, BrIf, BrTable, Return, Call, CallIndirect}
use Rattle.wasm_tree.specs.Tree.{tree_of}
use Rattle.wasm_tree.specs.Valid.{signatures, results_of, grouped}
use Rattle.wasm_tree.specs.Exec.{type_of, label_at}
use Rattle.wasm_tree.specs.Frames.{taken, given, peak, frame_words, defined}
use Rattle.wasm_steps.specs.declared.step.Label.{Label}
use Rattle.wasm_steps.specs.declared.step.Step.{Step}
use Rattle.wasm_steps.specs.declared.step.Step.TheVariants as step
use Rattle.wasm_steps.specs.declared.layout.BodyLayout.{BodyLayout}
use Rattle.wasm_steps.specs.declared.layout.FunctionLayout.{FunctionLayout}
use Rattle.wasm_steps.specs.declared.layout.ModuleLayout.{ModuleLayout}
use Rattle.wasm_steps.specs.Steps.{laid_step, label}

-- How many steps the code takes.
abbrev pub size : Code → ℕ
size Stop = 0
size (Then p rest) = 1 + size rest
size (Unreachable rest) = 1 + size rest
size (Block kind body rest) = 1 + size body + size rest
size (Loop kind body rest) = 1 + size body + size rest
size (If kind first rest) = 1 + size first + size rest
size (IfElse kind first second rest) = 1 + size first + 1 + size second + size rest
size (Br l rest) = 1 + size rest
size (BrIf l rest) = 1 + size rest
size (BrTable labels last rest) = 1 + (length labels + 1) + size rest
size (Return rest) = 1 + size rest
size (Call f rest) = 1 + size rest
size (CallIndirect x rest) = 1 + size rest

-- The local or the global that a plain instruction names is one of so many.
abbrev pub IsNamed : ℕ → ℕ → Plain → Type 0
IsNamed locals globals plain.Nop = ⊤
IsNamed locals globals plain.Drop = ⊤
IsNamed locals globals plain.Select = ⊤
IsNamed locals globals (plain.LocalGet x) = x < locals
IsNamed locals globals (plain.LocalSet x) = x < locals
IsNamed locals globals (plain.LocalTee x) = x < locals
IsNamed locals globals (plain.GlobalGet x) = x < globals
IsNamed locals globals (plain.GlobalSet x) = x < globals
IsNamed locals globals (plain.Load kind a) = ⊤
IsNamed locals globals (plain.Store kind a) = ⊤
IsNamed locals globals plain.MemorySize = ⊤
IsNamed locals globals plain.MemoryGrow = ⊤
IsNamed locals globals (plain.I32Const z) = ⊤
IsNamed locals globals (plain.I64Const z) = ⊤
IsNamed locals globals (plain.EqualsZero kind) = ⊤
IsNamed locals globals (plain.Compare kind c) = ⊤
IsNamed locals globals (plain.Unary kind o) = ⊤
IsNamed locals globals (plain.Binary kind o) = ⊤
IsNamed locals globals (plain.Convert c) = ⊤

module _ (m : Module) (steps : List Step) (locals room keep : ℕ) where
  -- A branch from so many operands of the block to this label.
  pub record IsBranch (labels : List Label) (height l : ℕ) (x : Label) : Type 0 where
    pub named : slice_get labels l ≡ Some x
    pub held : x.keep ≤ height
    pub few : x.keep ≤ 1

  -- The steps at the place are those of the code, inside these labels, the innermost first. Its block begins above base
  -- operands and ends with so many results, and height operands of the block are there before the code. No height
  -- passes room. Nothing is asked of code that is never reached.
  abbrev pub Laid : ℕ → List Label → ℕ → ℕ → ℕ → Code → Type 0
  Laid place labels base results height Stop = height ≡ results
  Laid place labels base results height (Then p rest) =
      (slice_get steps place ≡ Some (laid_step p)) × IsNamed locals (length m.globals) p × (taken p ≤ height) × (base + (height - taken p + given p) ≤ room)
      × Laid (place + 1) labels base results (height - taken p + given p) rest
  Laid place labels base results height (Unreachable rest) = slice_get steps place ≡ Some step.Unreachable
  Laid place labels base results height (Block kind body rest) =
      (slice_get steps place ≡ Some step.Enter)
      × Laid (place + 1) (label (place + 1 + size body) (base + height) (length (results_of kind)) ∷ labels) (base + height) (length (results_of kind)) 0 body
      × Laid (place + 1 + size body) labels base results (height + length (results_of kind)) rest
  Laid place labels base results height (Loop kind body rest) =
      (slice_get steps place ≡ Some step.Enter)
      × Laid (place + 1) (label place (base + height) 0 ∷ labels) (base + height) (length (results_of kind)) 0 body
      × Laid (place + 1 + size body) labels base results (height + length (results_of kind)) rest
  Laid place labels base results height (If kind first rest) =
      (slice_get steps place ≡ Some (step.Test (place + 1 + size first))) × (kind ≡ None) × (below : ℕ) × (height ≡ suc below)
      × Laid (place + 1) (label (place + 1 + size first) (base + below) 0 ∷ labels) (base + below) 0 0 first
      × Laid (place + 1 + size first) labels base results below rest
  Laid place labels base results height (IfElse kind first second rest) =
      (slice_get steps place ≡ Some (step.Test (place + 1 + size first + 1))) × (below : ℕ) × (height ≡ suc below)
      × Laid (place + 1) (label (place + 1 + size first + 1 + size second) (base + below) (length (results_of kind)) ∷ labels) (base + below) (length (results_of kind)) 0 first
      × (slice_get steps (place + 1 + size first) ≡ Some (step.Jump (place + 1 + size first + 1 + size second)))
      × Laid (place + 1 + size first + 1) (label (place + 1 + size first + 1 + size second) (base + below) (length (results_of kind)) ∷ labels) (base + below) (length (results_of kind)) 0 second
      × Laid (place + 1 + size first + 1 + size second) labels base results (below + length (results_of kind)) rest
  Laid place labels base results height (Br l rest) =
      (x : Label) × (slice_get steps place ≡ Some (step.Br x)) × IsBranch labels height l x
  Laid place labels base results height (BrIf l rest) =
      (x : Label) × (slice_get steps place ≡ Some (step.BrIf x)) × (below : ℕ) × (height ≡ suc below) × IsBranch labels below l x
      × Laid (place + 1) labels base results below rest
  Laid place labels base results height (BrTable ls last rest) =
      (slice_get steps place ≡ Some (step.BrTable (length ls))) × (below : ℕ) × (height ≡ suc below)
      × ((i : ℕ) → i ≤ length ls → (x : Label) × (slice_get steps (place + 1 + i) ≡ Some (step.Entry x)) × IsBranch labels below (label_at ls last i) x)
  Laid place labels base results height (Return rest) = (slice_get steps place ≡ Some (step.Return keep)) × (keep ≤ height)
  Laid place labels base results height (Call f rest) =
      (slice_get steps place ≡ Some (step.Call f)) × (t : FunctionType) × (type_of m f ≡ Some t) × (length t.params ≤ height) × (base + height ≤ room)
      × (base + (height - length t.params + length t.results) ≤ room) × Laid (place + 1) labels base results (height - length t.params + length t.results) rest
  Laid place labels base results height (CallIndirect x rest) =
      (slice_get steps place ≡ Some (step.CallIndirect x)) × (t : FunctionType) × (slice_get m.types x ≡ Some t) × (1 + length t.params ≤ height) × (base + height ≤ room)
      × (base + (height - 1 - length t.params + length t.results) ≤ room) × Laid (place + 1) labels base results (height - 1 - length t.params + length t.results) rest

-- The facts of a body are those of its function, and its steps lie at its entry. A `Finish` ends them.
pub record IsBodyLayout (m : Module) (steps : List Step) (t : FunctionType) (fn : Function) (layout : BodyLayout) : Type 0 where
  pub locals : layout.locals ≡ length (grouped fn.locals)
  pub height : layout.height ≡ peak m (length t.results ∷ []) 0 0 (tree_of fn.body)
  pub words : layout.words ≡ frame_words m t fn
  pub laid : Laid m steps (length t.params + layout.locals) layout.height (length t.results) layout.entry
      (label (layout.entry + size (tree_of fn.body)) 0 (length t.results) ∷ []) 0 (length t.results) 0 (tree_of fn.body)
  pub ends : slice_get steps (layout.entry + size (tree_of fn.body)) ≡ Some step.Finish

abbrev pub IsBodyOf : Module → List Step → FunctionType → Option Function → Option BodyLayout → Type 0
IsBodyOf m steps t None None = ⊤
IsBodyOf m steps t None (Some layout) = ⊥
IsBodyOf m steps t (Some fn) None = ⊥
IsBodyOf m steps t (Some fn) (Some layout) = IsBodyLayout m steps t fn layout

-- The facts of the function with this index, which has at most one result.
pub record IsFunctionLayout (m : Module) (steps : List Step) (f : ℕ) (layout : FunctionLayout) : Type 0 where
  pub type : FunctionType
  pub of_type : slice_get m.types layout.signature ≡ Some type
  pub signature : slice_get (signatures m) f ≡ Some layout.signature
  pub params : layout.params ≡ length type.params
  pub results : layout.results ≡ length type.results
  pub few : length type.results ≤ 1
  pub body : IsBodyOf m steps type (defined m f) layout.body

-- The steps and the facts of the functions are those of the module.
pub record IsModuleLayout (m : Module) (layout : ModuleLayout) : Type 0 where
  pub count : length layout.functions ≡ length (signatures m)
  pub each : (f : ℕ) (function : FunctionLayout) → slice_get layout.functions f ≡ Some function → IsFunctionLayout m layout.steps f function
  pub few : length layout.steps < 2 ^ 32
