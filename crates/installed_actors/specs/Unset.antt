-- Bodies that run before the names of an actor have values.
use Rattle.std.specs.Prelude.{⊤, ◌≡◌, ◌⊎◌, ℕ, suc, ◌+◌, ◌*◌, ◌<◌, ◌≤◌, ◌^◌, List, [], ◌∷◌, length, Option, Some}
use Rattle.mo_values.specs.Shapes.{unit}
use Rattle.wasm_tree.specs.Exec.{Store}
use Rattle.ic0_world.specs.declared.world.World.{World as HostWorld}
use Rattle.core_ir.specs.Choices.{nth}
use Rattle.core_ir.specs.Values.{Value}
use Rattle.core_ir.specs.Worlds.{World, Context}
use Rattle.core_ir.specs.Executions.{Replies, Traps, Stand, Still, Over, run}
use Rattle.core_ir.specs.Code.{Body, CodeProgram}
use Rattle.core_ir.specs.CodeMachine.{State, Waiting, code_machine}
use Rattle.low_ir.specs.Tree.{Module}
use Rattle.low_ir.specs.Meaning.{Called, Gave}
use Rattle.low_ir.specs.Frames.{enter}
use Rattle.low_execution.specs.Host.{low_host}
use Rattle.heap_layout.specs.Words.{word_at}
use Rattle.heap_layout.specs.Ghosts.{Ghost, Inner}
use Rattle.heap_layout.specs.Means.{Rep, Reps}
use Rattle.heap_layout.specs.Heaps.{Plan}
use Rattle.heap_layout.specs.Table.{bytes_for}
use Rattle.flat_emission.specs.Emission.{Linkage}
use Rattle.emitted_steps.specs.Operations.{AllKeep, AllocationKeeps, HeapHeld, told_all}
use Rattle.emitted_steps.specs.States.{BlockAt, GroupsSee, words_for}
use Rattle.emitted_steps.specs.Steps.{own_steps, Trapped}
use Rattle.emitted_steps.specs.Modules.{FunctionsAre}
use Rattle.emitted_runs.specs.Runs.{AskedFor}
use Rattle.emitted_runs.specs.Bodies.{first_state, BodyAt}
use Rattle.limited_runs.specs.Shown.{told, fell, prints_of}
use Rattle.limited_runs.specs.Cuts.{CutOff}

-- A name that has no value yet reads as (). Its word is the run time's own, so that nothing else stands there, and is 0.
abbrev pub NamesUnset : Ghost → List ℕ → (at hidden : ℕ) → List Value → Type 0
NamesUnset g memory at hidden globals = (x : ℕ) → hidden ≤ x → x < length globals → (nth unit globals x ≡ unit) × (g.own (at + x) ≡ Inner) × (word_at memory (at + x) ≡ 0)

module _ (plan : Plan) (link : Linkage) (table : List (Option ℕ)) (sees : ℕ → ℕ) (context : Context) (m : Module) (unit_steps : ℕ) where
  -- The function gives its value, and the words of names are as they were.
  pub record RepliedUnset (called : Called HostWorld) (left top : ℕ) (w : HostWorld) (weight : ℕ) (world : World) (v : Value) : Type 0 where
    pub rest : ℕ
    pub store : Store HostWorld
    pub word : ℕ
    pub ghost : Ghost
    pub end : ℕ
    pub same : called ≡ Gave rest store (Some word)
    pub rep : Rep ghost store.memory word v
    pub heap : HeapHeld plan ghost world store end
    pub names : NamesUnset ghost store.memory link.names link.hidden context.globals
    pub groups : GroupsSee sees world
    pub table_is : store.table ≡ table
    pub few : left ≤ rest + (own_steps + unit_steps) * weight
    pub bytes : 8 * end ≤ 8 * top + bytes_for weight
    pub shown : store.world ≡ w

  abbrev pub EndsUnset : (called : Called HostWorld) → (left pages room top : ℕ) → HostWorld → (turns : ℕ) → Stand State Waiting → Type 0
  EndsUnset called left pages room top w turns (Still weight deep prints world s) =
      suc left < turns → CutOff plan link table sees context m unit_steps called left pages room top w (Still weight deep prints world s)
  EndsUnset called left pages room top w turns (Over weight deep prints world (Replies v)) =
      RepliedUnset called left top (told_all told w prints) weight world v
      ⊎ CutOff plan link table sees context m unit_steps called left pages room top w (Over weight deep prints world (Replies v))
  EndsUnset called left pages room top w turns (Over weight deep prints world (Traps text)) =
      Trapped plan link table sees context pages m low_host told fell prints_of unit_steps (words_for deep) (65536 * pages) called (told_all told w prints) text
      ⊎ CutOff plan link table sees context m unit_steps called left pages room top w (Over weight deep prints world (Traps text))
  EndsUnset called left pages room top w turns (Over weight deep prints world end) = ⊤

-- A call of a body's function comes to what the machine does, or is cut off, and leaves the words of names alone.
abbrev pub BodiesRunUnset : Type 0
BodiesRunUnset =
    (plan : Plan) (link : Linkage) (table : List (Option ℕ)) (sees : ℕ → ℕ) (program : CodeProgram) (context : Context) (m : Module) (unit_steps pages : ℕ) → pages ≤ 65535
    → AllKeep plan told fell unit_steps context.head pages (65536 * pages) m low_host link → AllocationKeeps pages m low_host link → FunctionsAre plan link table sees context.globals m program
    → (members group block : ℕ) (seen : List Value) (b : Body) (e : BodyAt plan link table sees context.globals m members (length seen) b) (world : World) (g : Ghost) (top : ℕ) (store : Store HostWorld) → HeapHeld plan g world store top
    → NamesUnset g store.memory link.names link.hidden context.globals → GroupsSee sees world → store.table ≡ table → 8 * block < 2 ^ 32 → BlockAt g store.memory block members group seen
    → (ws : List ℕ) (vs : List Value) → Reps g store.memory ws vs → length vs ≡ b.parameters → (turns : ℕ) → AskedFor program context turns world (first_state b group seen vs)
    → (calls room left : ℕ) → room < calls
    → EndsUnset plan link table sees context m unit_steps (enter calls pages m low_host room e.number left store (8 * block ∷ ws)) left pages room top store.world turns
    (run (code_machine program) context turns 0 0 [] world (first_state b group seen vs))
