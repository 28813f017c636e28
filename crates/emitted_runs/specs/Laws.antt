-- The laws, as statements.
use Rattle.std.specs.Prelude.{◌≡◌, ℕ, suc, ◌+◌, ◌*◌, ◌≤◌, ◌<◌, ◌^◌, List, [], ◌∷◌, ◌++◌, length, Bool, Option, Some, slice_get}
use Rattle.mo_values.specs.Shapes.{Bytes}
use Rattle.wasm_tree.specs.Exec.{Host, Store}
use Rattle.core_ir.specs.Contexts.{call_context}
use Rattle.core_ir.specs.Programs.{Method}
use Rattle.core_ir.specs.Values.{Value, flag_value}
use Rattle.core_ir.specs.Worlds.{World, Context}
use Rattle.core_ir.specs.Executions.{Begins, Saves, Starts, Machine, run, execution}
use Rattle.core_ir.specs.Code.{Body, CodeProgram}
use Rattle.core_ir.specs.CodeMachine.{State, code_machine}
use Rattle.low_ir.specs.Tree.{Module}
use Rattle.low_ir.specs.Frames.{enter}
use Rattle.memory_routines.specs.Heaps.{heap_end, pages_for}
use Rattle.code_sequences.specs.Places.{Place}
use Rattle.heap_layout.specs.Ghosts.{Ghost}
use Rattle.heap_layout.specs.Means.{Reps}
use Rattle.heap_layout.specs.Heaps.{Plan}
use Rattle.heap_layout.specs.Table.{words_beside}
use Rattle.flat_emission.specs.Emission.{Linkage}
use Rattle.emitted_steps.specs.Operations.{AllKeep, AllocationKeeps, HeapHeld}
use Rattle.emitted_steps.specs.States.{NamesAt, BlockAt, GroupsSee, Held, words_for}
use Rattle.emitted_steps.specs.Shortage.{StepsRunOut}
use Rattle.emitted_steps.specs.Modules.{FunctionsAre}
use Rattle.emitted_steps.specs.Steps.{Turn, rest_of}
use Rattle.emitted_runs.specs.Stands.{behind}
use Rattle.emitted_runs.specs.Runs.{AskedFor, deepest, RunsTo}
use Rattle.emitted_runs.specs.Bodies.{first_state, BodyAt}

-- A run from some weight, depth and prints on is the run from none, behind these.
abbrev pub RunsAddUp : Type 0 → Type 0 → Type 0
RunsAddUp S W = (machine : Machine S W) (context : Context) (turns weight depth : ℕ) (prints : List Bytes) (world : World) (s : S) → run machine context turns weight depth prints world s ≡ behind weight depth prints (run machine context turns 0 0 [] world s)

-- Where low code stands as a state does, and the stack has words for a run's depth, it comes to what the machine does.
abbrev pub RunsAreFollowed : Type 0 → Type 0
RunsAreFollowed W =
    (plan : Plan) (link : Linkage) (table : List (Option ℕ)) (sees : ℕ → ℕ) (program : CodeProgram) (context : Context) (pages : ℕ) (m : Module) (host : Host W) (told fell : W → Bytes → W) (prints_of : W → List Bytes) (unit_steps total roof : ℕ)
    → StepsRunOut pages m host told fell prints_of → AllKeep plan told fell unit_steps context.head pages roof m host link → AllocationKeeps pages m host link → roof ≤ heap_end → pages_for roof ≤ pages → FunctionsAre plan link table sees context.globals m program
    → (turns : ℕ) (world : World) (s : State) (g : Ghost) (c : Place W) (top : ℕ) (h : Held plan link table sees context total g world s c top) (turn : Turn s.code c) → AskedFor program context turns world s
    → words_for (deepest (run (code_machine program) context turns 0 0 [] world s)) ≤ total
    → RunsTo plan link table sees context pages m host told fell prints_of unit_steps total roof (rest_of plan link table sees context pages m host told fell prints_of unit_steps total roof h.here s.code c turn) c.left top c.store.world turns
    (run (code_machine program) context turns 0 0 [] world s)

-- A call of the function of a body, with the address of its group's block (0 for none) and words of its arguments, comes to what the
-- machine does from the body's first state.
abbrev pub BodiesAreEntered : Type 0 → Type 0
BodiesAreEntered W =
    (plan : Plan) (link : Linkage) (table : List (Option ℕ)) (sees : ℕ → ℕ) (program : CodeProgram) (context : Context) (pages : ℕ) (m : Module) (host : Host W) (told fell : W → Bytes → W) (prints_of : W → List Bytes) (unit_steps total roof : ℕ)
    → StepsRunOut pages m host told fell prints_of → AllKeep plan told fell unit_steps context.head pages roof m host link → AllocationKeeps pages m host link → roof ≤ heap_end → pages_for roof ≤ pages → FunctionsAre plan link table sees context.globals m program
    → (members group block : ℕ) (seen : List Value) (b : Body) (e : BodyAt plan link table sees context.globals m members (length seen) b) (world : World) (g : Ghost) (top : ℕ) (store : Store W) → HeapHeld plan g world store top
    → NamesAt g store.memory link.names link.hidden context.globals → GroupsSee sees world → store.table ≡ table → 8 * block < 2 ^ 32 → BlockAt g store.memory block members group seen
    → (ws : List ℕ) (vs : List Value) → Reps g store.memory ws vs → length vs ≡ b.parameters → (deep room : ℕ) → total + words_beside ≤ deep → total + words_beside ≤ room
    → (turns left : ℕ) → AskedFor program context turns world (first_state b group seen vs)
    → words_for (deepest (run (code_machine program) context turns 0 0 [] world (first_state b group seen vs))) ≤ total
    → RunsTo plan link table sees context pages m host told fell prints_of unit_steps total roof (enter (suc deep) pages m host room e.number left store (8 * block ∷ ws)) left top store.world turns
    (run (code_machine program) context turns 0 0 [] world (first_state b group seen vs))

-- Executions that begin a method, a saving or a start, with as many values as its body has parameters.
abbrev pub ExecutionsBegin : Type 0
ExecutionsBegin =
    (program : CodeProgram) (context : Context) (world : World) (turns : ℕ)
    → ((place : ℕ) (method : Method Body) (caller : Bytes) (vs : List Value) → slice_get program.methods place ≡ Some method → suc (length vs) ≡ method.body.parameters
    → execution (code_machine program) context turns world (Begins place caller vs)
    ≡ behind (2 + length caller + (1 + method.body.nodes)) 0 [] (run (code_machine program) context turns 0 0 [] world (first_state method.body 0 [] (call_context caller ∷ vs))))
    × (0 ≡ program.save.parameters → execution (code_machine program) context turns world Saves ≡ behind (0 + (1 + program.save.nodes)) 0 [] (run (code_machine program) context turns 0 0 [] world (first_state program.save 0 [] [])))
    × ((kept : List Value) (upgraded : Bool) → length (kept ++ flag_value upgraded ∷ []) ≡ program.start.parameters
    → execution (code_machine program) context turns world (Starts kept upgraded) ≡ behind (0 + (1 + program.start.nodes)) 0 [] (run (code_machine program) context turns 0 0 [] world (first_state program.start 0 [] (kept ++ flag_value upgraded ∷ []))))
