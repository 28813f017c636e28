-- What a run of structured code is in an execution of its low code.
use Rattle.std.specs.Prelude.{⊤, ◌≡◌, ◌⊎◌, ℕ, zero, suc, ◌+◌, ◌*◌, ◌≤◌, List, max, Option}
use Rattle.mo_values.specs.Shapes.{Bytes}
use Rattle.wasm_tree.specs.Exec.{Host}
use Rattle.core_ir.specs.Worlds.{World, Context}
use Rattle.core_ir.specs.Executions.{Replies, Traps, Go, Ends, Stand, Still, Over}
use Rattle.core_ir.specs.Code.{CodeProgram}
use Rattle.core_ir.specs.CodeMachine.{State, Waiting, Did, settle, step, depth}
use Rattle.low_ir.specs.Tree.{Module}
use Rattle.low_ir.specs.Meaning.{Called}
use Rattle.code_sequences.specs.Places.{Place}
use Rattle.heap_layout.specs.Ghosts.{Ghost}
use Rattle.heap_layout.specs.Heaps.{Plan}
use Rattle.heap_layout.specs.Table.{bytes_for}
use Rattle.flat_emission.specs.Emission.{Linkage}
use Rattle.emitted_steps.specs.Operations.{told_all}
use Rattle.emitted_steps.specs.States.{Held}
use Rattle.emitted_steps.specs.Steps.{Turn, steps_of, rest_of, Replied, Trapped, Lacks}
use Rattle.emitted_steps.specs.Laws.{Asked}

-- What is asked of the instructions that come, for so many turns of the machine.
module _ (program : CodeProgram) (context : Context) where
  abbrev pub AskedThen : (World → State → Type 0) → Did → Type 0
  AskedThen more (Go cost prints world s) = more world s
  AskedThen more (Ends cost prints world end) = ⊤

  abbrev pub AskedFor : ℕ → World → State → Type 0
  AskedFor zero world s = ⊤
  AskedFor (suc turns) world s = Asked context s.frame (settle s.around s.code).code × AskedThen (AskedFor turns) (step program context world s)

abbrev pub weight_of : Stand State Waiting → ℕ
weight_of (Still weight deep prints world s) = weight
weight_of (Over weight deep prints world end) = weight

abbrev pub deep_of : Stand State Waiting → ℕ
deep_of (Still weight deep prints world s) = deep
deep_of (Over weight deep prints world end) = deep

-- The greatest depth, with the state in which the run stands.
abbrev pub deepest : Stand State Waiting → ℕ
deepest (Still weight deep prints world s) = max deep (depth s)
deepest (Over weight deep prints world end) = deep

-- What has been shown to the host by then.
abbrev pub shown_by : {W : Type 0} → (told fell : W → Bytes → W) → W → Stand State Waiting → W
shown_by told fell w (Still weight deep prints world s) = told_all told w prints
shown_by told fell w (Over weight deep prints world (Traps text)) = fell (told_all told w prints) text
shown_by told fell w (Over weight deep prints world end) = told_all told w prints

module _ (plan : Plan) (link : Linkage) (table : List (Option ℕ)) (sees : ℕ → ℕ) (context : Context) {W : Type 0} (pages : ℕ) (m : Module) (host : Host W) (told fell : W → Bytes → W) (prints_of : W → List Bytes) (unit_steps total roof : ℕ) where
  -- The low code stands as the machine does after so many turns, each of which has taken a step of it.
  pub record Reached (before : Called W) (left top : ℕ) (w : W) (turns weight : ℕ) (prints : List Bytes) (world : World) (s : State) : Type 0 where
    pub to : Place W
    pub ghost : Ghost
    pub end : ℕ
    pub held : Held plan link table sees context total ghost world s to end
    pub turn : Turn s.code to
    pub same : before ≡ rest_of plan link table sees context pages m host told fell prints_of unit_steps total roof held.here s.code to turn
    pub steps : ℕ
    pub count : left ≡ steps + to.left
    pub some : turns ≤ steps
    pub few : steps ≤ steps_of plan link table sees context pages m host told fell prints_of unit_steps total roof weight
    pub bytes : 8 * end ≤ 8 * top + bytes_for weight
    pub shown : to.store.world ≡ told_all told w prints

  -- What a call comes to where the machine stands so after so many turns. Nothing is said of ends that plain functions do not have.
  abbrev pub StandsAs : (before : Called W) → (left top : ℕ) → W → (turns : ℕ) → Stand State Waiting → Type 0
  StandsAs before left top w turns (Still weight deep prints world s) = Reached before left top w turns weight prints world s
  StandsAs before left top w turns (Over weight deep prints world (Replies v)) =
      Replied plan link table sees context pages m host told fell prints_of unit_steps total roof before left top (told_all told w prints) weight world v
  StandsAs before left top w turns (Over weight deep prints world (Traps text)) =
      Trapped plan link table sees context pages m host told fell prints_of unit_steps total roof before (told_all told w prints) text
  StandsAs before left top w turns (Over weight deep prints world end) = ⊤

  -- Or it has fallen before, for want of steps or of memory, of which there was less than the weight pays for.
  abbrev pub RunsTo : (before : Called W) → (left top : ℕ) → W → (turns : ℕ) → Stand State Waiting → Type 0
  RunsTo before left top w turns stand =
      StandsAs before left top w turns stand ⊎ Lacks plan link table sees context pages m host told fell prints_of unit_steps total roof before left top (weight_of stand) (shown_by told fell w stand)
