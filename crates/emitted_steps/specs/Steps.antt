-- What a step of structured code is in an execution of low code.
use Rattle.std.specs.Prelude.{⊤, ◌≡◌, ◌⊎◌, ℕ, ◌+◌, ◌*◌, ◌<◌, ◌≤◌, List, Option, Some}
use Rattle.mo_values.specs.Shapes.{Bytes}
use Rattle.wasm_tree.specs.declared.trap.Trap.TheVariants as trap
use Rattle.wasm_tree.specs.Exec.{Host, Store}
use Rattle.core_ir.specs.Values.{Value}
use Rattle.core_ir.specs.Worlds.{World, Context}
use Rattle.core_ir.specs.Executions.{Replies, Traps, Go, Ends}
use Rattle.core_ir.specs.Code.{Code, Loop}
use Rattle.core_ir.specs.CodeMachine.{State, Did, depth_of}
use Rattle.low_ir.specs.Tree.{Module}
use Rattle.low_ir.specs.Meaning.{Called, Gave, Fell, onward, turns, run}
use Rattle.code_sequences.specs.Places.{Place, calls_of, closes}
use Rattle.code_sequences.specs.Places as places
use Rattle.heap_layout.specs.Ghosts.{Ghost}
use Rattle.heap_layout.specs.Means.{Rep}
use Rattle.heap_layout.specs.Heaps.{Plan}
use Rattle.heap_layout.specs.Table.{bytes_for, words_for_levels}
use Rattle.flat_emission.specs.Emission.{Linkage, Here, emit}
use Rattle.emitted_steps.specs.Operations.{told_all, HeapHeld}
use Rattle.emitted_steps.specs.States.{NamesAt, GroupsSee, Held, words_for}
use Rattle.emitted_steps.specs.Shortage.{IsShort, IsWanting}

-- A jump to a loop is a step of its own, after which the low code stands at a further turn of the loop, of so many that are left.
pub data Turn {W : Type 0} (code : Code) (c : Place W) : Type 0 where
  Usual : Turn code c
  Anew : (most : ℕ) → (b r : Code) → code ≡ Loop b r → c.left < most → Turn code c

-- What code takes beside the codes of primitives, in steps for each unit of weight.
abbrev pub own_steps : ℕ
own_steps = 96

module _ (plan : Plan) (link : Linkage) (table : List (Option ℕ)) (sees : ℕ → ℕ) (context : Context) {W : Type 0} (pages : ℕ) (m : Module) (host : Host W) (told fell : W → Bytes → W) (prints_of : W → List Bytes) (unit_steps total roof : ℕ) where
  abbrev pub steps_of : ℕ → ℕ
  steps_of weight = (own_steps + unit_steps) * weight

  -- the rest of the execution
  abbrev pub rest_of : Here → (code : Code) → (c : Place W) → Turn code c → Called W
  rest_of here code c Usual = places.rest_of pages m host c
  rest_of here code c (Anew most b r e lt) =
      closes pages m host c
      (onward (turns most (run pages m (calls_of pages m host c.deep c.room) (emit plan link here b)) (record { left = c.left; store = c.store; locals = c.locals })) (run pages m (calls_of pages m host c.deep c.room) (emit plan link here r)))

  -- The low code goes on where the structured code does.
  pub record Moves (before : Called W) (left top : ℕ) (w : W) (weight : ℕ) (prints : List Bytes) (world : World) (s : State) : Type 0 where
    pub to : Place W
    pub ghost : Ghost
    pub end : ℕ
    pub held : Held plan link table sees context total ghost world s to end
    pub turn : Turn s.code to
    pub same : before ≡ rest_of held.here s.code to turn
    pub steps : ℕ
    pub count : left ≡ steps + to.left
    pub some : 1 ≤ steps
    pub few : steps ≤ steps_of weight
    pub bytes : 8 * end ≤ 8 * top + bytes_for weight
    pub shown : to.store.world ≡ told_all told w prints

  -- The function that was entered first gives its value, in a heap in which another execution may begin.
  pub record Replied (before : Called W) (left top : ℕ) (w : W) (weight : ℕ) (world : World) (v : Value) : Type 0 where
    pub rest : ℕ
    pub store : Store W
    pub word : ℕ
    pub ghost : Ghost
    pub end : ℕ
    pub same : before ≡ Gave rest store (Some word)
    pub rep : Rep ghost store.memory word v
    pub heap : HeapHeld plan ghost world store end
    pub names : NamesAt ghost store.memory link.names link.hidden context.globals
    pub groups : GroupsSee sees world
    pub table_is : store.table ≡ table
    pub fewer : rest ≤ left
    pub few : left ≤ rest + steps_of weight
    pub bytes : 8 * end ≤ 8 * top + bytes_for weight
    pub shown : store.world ≡ w

  -- The execution ends with the text.
  pub record Trapped (before : Called W) (w : W) (text : Bytes) : Type 0 where
    pub store : Store W
    pub same : before ≡ Fell trap.Host store
    pub world : store.world ≡ fell w text

  -- The execution lacks steps for the weight, or memory, before this world.
  abbrev pub Lacks : (before : Called W) → (left top weight : ℕ) → W → Type 0
  Lacks before left top weight w = IsShort prints_of before left (steps_of weight) w ⊎ IsWanting prints_of before roof (8 * top + bytes_for weight) w

  -- A step is asked to have the depth before it, with its levels, and after it within the room of the stack. Where steps or memory lack, the
  -- execution falls for want of these. Nothing is said of a step that is no step of a plain function.
  abbrev pub Matches : (before : Called W) → (left top below : ℕ) → W → Did → Type 0
  Matches before left top below w (Go cost prints world s) =
      words_for below + words_for_levels cost.levels ≤ total → words_for (16 + s.frame.body.nodes + depth_of s.callers) ≤ total
      → Moves before left top w cost.weight prints world s ⊎ Lacks before left top cost.weight (told_all told w prints)
  Matches before left top below w (Ends cost prints world (Replies v)) = Replied before left top w cost.weight world v ⊎ Lacks before left top cost.weight w
  Matches before left top below w (Ends cost prints world (Traps text)) = words_for below + words_for_levels cost.levels ≤ total → Trapped before w text ⊎ Lacks before left top cost.weight (fell w text)
  Matches before left top below w (Ends cost prints world _) = ⊤
