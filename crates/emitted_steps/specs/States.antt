-- How a state of structured code stands in an execution of low code. A ghost map says where cells and groups of functions are.
use Rattle.std.specs.Prelude.{⊤, ◌≡◌, ℕ, ◌+◌, ◌*◌, ◌<◌, ◌≤◌, ◌^◌, true, List, [], ◌∷◌, length, Option, Some, None, slice_get, slice_index}
use Rattle.mo_types.specs.declared.datum.Datum.{Datum}
use Rattle.mo_types.specs.declared.datum.Datum.TheVariants as part
use Rattle.mo_values.specs.Shapes.{Bytes, unit}
use Rattle.wasm_tree.specs.Exec.{bits64}
use Rattle.core_ir.specs.declared.constant.Constant.{Constant}
use Rattle.core_ir.specs.declared.constant.Constant.TheVariants as constant
use Rattle.core_ir.specs.declared.code.Operand.{Operand}
use Rattle.core_ir.specs.declared.code.Operand.TheVariants.{Slot, Captured, Member, Global}
use Rattle.core_ir.specs.declared.code.Operand.TheVariants as operand
use Rattle.core_ir.specs.Choices.{nth}
use Rattle.core_ir.specs.Values.{Value}
use Rattle.core_ir.specs.Worlds.{World, Context, MadeGroup}
use Rattle.core_ir.specs.Code.{Code, Stop, Let, If, Match, Loop, Label, Branch, Make, Call, Return}
use Rattle.core_ir.specs.CodeMachine as flat
use Rattle.core_ir.specs.CodeMachine.{Frame, Within, Again, State, depth_of}
use Rattle.heap_layout.specs.Ghosts.{Ghost, Fixed}
use Rattle.heap_layout.specs.Blocks.{text_words}
use Rattle.heap_layout.specs.Means.{ValueAt, Rep}
use Rattle.heap_layout.specs.Heaps.{Plan}
use Rattle.heap_layout.specs.Table.{words_beside}
use Rattle.leaf_blocks.specs.Laws.{IsWritten}
use Rattle.code_sequences.specs.Places.{Around, After, Turning, Caller, Place}
use Rattle.flat_emission.specs.Emission.{Linkage, Here, emit, slot, local_count}
use Rattle.emitted_steps.specs.Operations.{HeapHeld}

-- The values of the actor's names, but for so many that are hidden. They do not change while code runs that reads them.
abbrev pub NamesAt : Ghost → List ℕ → (at hidden : ℕ) → List Value → Type 0
NamesAt g memory at hidden globals = (x : ℕ) → hidden ≤ x → x < length globals → ValueAt g memory (at + x) (nth unit globals x)

-- The block of a group of so many functions, from word b on, as they see it.
pub record BlockAt (g : Ghost) (memory : List ℕ) (b members group : ℕ) (seen : List Value) : Type 0 where
  pub captured : (x : ℕ) → x < length seen → ValueAt g memory (b + (2 * members + x)) (nth unit seen x)
  pub member : (k : ℕ) → k < members → (g.groups group ≡ b) × (group < g.made) × (g.own (b + 2 * k) ≡ Fixed)

-- The frame of a function.
pub record FrameHeld (g : Ghost) (memory : List ℕ) (f : Frame) (here : Here) (locals : List ℕ) : Type 0 where
  pub long : length locals ≡ local_count here
  pub slots : (x : ℕ) → x < here.slots → Rep g memory (slice_index locals (slot x)) (nth unit f.slots x)
  pub b : ℕ
  pub block_is : slice_index locals 0 ≡ 8 * b
  pub low : 8 * b < 2 ^ 32
  pub block : BlockAt g memory b here.members f.group f.seen

-- ---- code that is treated here

module _ (plan : Plan) (bytes_at : Bytes → ℕ) where
  -- The block of these bytes stands among the module's texts.
  pub record StandsReady (bytes : Bytes) : Type 0 where
    pub some : 0 < bytes_at bytes
    pub inside : bytes_at bytes + text_words bytes ≤ plan.base
    pub written : IsWritten plan.texts (bytes_at bytes) bytes

  -- literals that are words, and those in bytes that stand ready
  abbrev pub PlainLeaf : Datum → Type 0
  PlainLeaf part.Null = ⊤
  PlainLeaf (part.Flag b) = ⊤
  PlainLeaf (part.Number n) = bits64 n < 2 ^ 64
  PlainLeaf (part.Char c) = c < 2 ^ 32
  PlainLeaf (part.Text t) = StandsReady t
  PlainLeaf (part.Blob t) = StandsReady t
  PlainLeaf (part.Principal p) = StandsReady p
  PlainLeaf (part.Actor p) = StandsReady p
  PlainLeaf p = ⊥

  abbrev pub Plain : Constant → Type 0
  Plain constant.Unit = ⊤
  Plain (constant.Leaf p) = PlainLeaf p

module _ (plan : Plan) (link : Linkage) (globals : List Value) (sees : ℕ → ℕ) (here : Here) (seen : ℕ) where
  abbrev pub FitsOperand : Operand → Type 0
  FitsOperand (Slot x) = x < here.slots
  FitsOperand (Captured x) = x < seen
  FitsOperand (Member k) = k < here.members
  FitsOperand (Global x) = (link.hidden ≤ x) × (x < length globals)
  FitsOperand (operand.Constant c) = Plain plan link.bytes_at c

  abbrev pub FitOperands : List Operand → Type 0
  FitOperands [] = ⊤
  FitOperands (x ∷ xs) = FitsOperand x × FitOperands xs

  abbrev pub Fit : List Operand → Type 0
  Fit xs = FitOperands xs × (length xs ≤ here.most)

  -- the forms of plain functions, with slots, operands and places that are there, and primitives that are treated
  abbrev pub Fits : Code → Type 0
  Fits Stop = ⊤
  Fits (Let t p xs c) = (t < here.slots) × Fit xs × Fits c × (link.treated p ≡ true)
  Fits (If p xs y n c) = Fit xs × Fits y × Fits n × Fits c × (link.treated p ≡ true)
  Fits (Match t k x y n c) = (t < here.slots) × Fit (x ∷ []) × Fits y × Fits n × Fits c
  Fits (Loop b c) = Fits b × Fits c
  Fits (Label b c) = Fits b × Fits c
  Fits (Branch l) = ⊤
  Fits (Make t xs code c) = (t + plan.sizes code ≤ here.slots) × (length xs ≡ sees code) × FitOperands xs × (1 ≤ here.most) × Fits c
  Fits (Call t f xs c) = (t < here.slots) × Fit (f ∷ xs) × Fits c
  Fits (Return x) = Fit (x ∷ [])
  Fits c = ⊥

  -- the constructs around, where so many steps are left
  abbrev pub Arounds : ℕ → List flat.Around → List Around → Type 0
  Arounds left [] [] = ⊤
  Arounds left (Within r ∷ ks) (After rest ∷ ls) = (rest ≡ emit plan link here r) × Fits r × Arounds left ks ls
  Arounds left (Again b r ∷ ks) (Turning most body rest ∷ ls) =
      (left < most) × (body ≡ emit plan link here b) × (rest ≡ emit plan link here r) × Fits b × Fits r × Arounds left ks ls
  Arounds left _ _ = ⊥

-- Stack words for bodies of so many nodes, each with 16 more: 4 for the frame that is formed, and one for constructs in the codes of
-- primitives.
abbrev pub words_for : ℕ → ℕ
words_for depth = 5 * depth

module _ (plan : Plan) (link : Linkage) (globals : List Value) (sees : ℕ → ℕ) (g : Ghost) (memory : List ℕ) (total : ℕ) where
  -- A call that is under way. `below` is the depth of those that wait for this one.
  pub record CallerHeld (left below : ℕ) (c : flat.Caller) (l : Caller) : Type 0 where
    pub here : Here
    pub plain : c.gathering ≡ None
    pub to : l.to ≡ Some (slot c.to)
    pub to_fits : c.to < here.slots
    pub rest : l.rest ≡ emit plan link here c.rest
    pub fits : Fits plan link globals sees here (length c.frame.seen) c.rest
    pub frame : FrameHeld g memory c.frame here l.locals
    pub around : Arounds plan link globals sees here (length c.frame.seen) left c.around l.around
    pub results : length l.type.results ≡ 1
    pub room : total + words_beside ≤ l.room + words_for (16 + c.frame.body.nodes + below)
    pub deep : total + words_beside ≤ l.deep + words_for (16 + c.frame.body.nodes + below)

  abbrev pub Callers : ℕ → List flat.Caller → List Caller → Type 0
  Callers left [] [] = ⊤
  Callers left (c ∷ cs) (l ∷ ls) = CallerHeld left (depth_of cs) c l × Callers left cs ls
  Callers left _ _ = ⊥

-- Groups that were made see as many values as those of the program.
abbrev pub GroupsSee : (ℕ → ℕ) → World → Type 0
GroupsSee sees world = (k : ℕ) (made : MadeGroup) → slice_get world.groups k ≡ Some made → length made.seen ≡ sees made.code

-- A state of structured code, and a place in an execution of low code. So many words of stack are for functions, and a number that all
-- routines share is for these beside.
pub record Held (plan : Plan) (link : Linkage) (table : List (Option ℕ)) (sees : ℕ → ℕ) (context : Context) (total : ℕ) (g : Ghost) (world : World) (s : State) {W : Type 0} (c : Place W) (top : ℕ) : Type 0 where
  pub here : Here
  pub code : c.code ≡ emit plan link here s.code
  pub fits : Fits plan link context.globals sees here (length s.frame.seen) s.code
  pub frame : FrameHeld g c.store.memory s.frame here c.locals
  pub around : Arounds plan link context.globals sees here (length s.frame.seen) c.left s.around c.around
  pub callers : Callers plan link context.globals sees g c.store.memory total c.left s.callers c.callers
  pub heap : HeapHeld plan g world c.store top
  pub names : NamesAt g c.store.memory link.names link.hidden context.globals
  pub groups : GroupsSee sees world
  pub table_is : c.store.table ≡ table
  pub results : length c.type.results ≡ 1
  pub room : total + words_beside ≤ c.room + words_for (16 + s.frame.body.nodes + depth_of s.callers)
  pub deep : total + words_beside ≤ c.deep + words_for (16 + s.frame.body.nodes + depth_of s.callers)
  pub within : words_for (16 + s.frame.body.nodes + depth_of s.callers) ≤ total
