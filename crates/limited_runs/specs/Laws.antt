-- The laws, as statements.
use Rattle.std.specs.Prelude.{◌≡◌, ℕ, ◌+◌, ◌*◌, ◌<◌, ◌≤◌, ◌^◌, List, [], ◌∷◌, length, Option}
use Rattle.mo_actor.specs.Executions.{Execution}
use Rattle.mo_actor.specs.Results.{IsPrefix}
use Rattle.wasm_tree.specs.Exec.{Store}
use Rattle.ic0_world.specs.declared.world.World.{World as HostWorld}
use Rattle.core_ir.specs.Values.{Value}
use Rattle.core_ir.specs.Worlds.{World, Context}
use Rattle.core_ir.specs.Executions.{run}
use Rattle.core_ir.specs.Code.{Body, CodeProgram}
use Rattle.core_ir.specs.CodeMachine.{code_machine}
use Rattle.low_ir.specs.Tree.{Module}
use Rattle.low_ir.specs.Meaning.{Called}
use Rattle.low_ir.specs.Frames.{enter}
use Rattle.low_execution.specs.Host.{low_host}
use Rattle.heap_layout.specs.Ghosts.{Ghost}
use Rattle.heap_layout.specs.Means.{Reps}
use Rattle.heap_layout.specs.Heaps.{Plan}
use Rattle.heap_layout.specs.Table.{bytes_for}
use Rattle.flat_emission.specs.Emission.{Linkage}
use Rattle.emitted_steps.specs.Operations.{HostShows, AllKeep, AllocationKeeps, HeapHeld}
use Rattle.emitted_steps.specs.States.{NamesAt, BlockAt, GroupsSee}
use Rattle.emitted_steps.specs.Shortage.{ShowsMore, StepsRunOut}
use Rattle.emitted_steps.specs.Modules.{FunctionsAre}
use Rattle.emitted_steps.specs.Steps.{own_steps}
use Rattle.emitted_runs.specs.Runs.{AskedFor}
use Rattle.emitted_runs.specs.Bodies.{first_state, BodyAt}
use Rattle.limited_runs.specs.Shown.{told, fell, prints_of}
use Rattle.limited_runs.specs.Cuts.{IsCutOff, IsExhausted, EndsWithin}

-- What steps that run out leave, under the host.
abbrev pub HostRunsOut : Type 0
HostRunsOut = (pages : ℕ) (m : Module) → StepsRunOut pages m low_host told fell prints_of

-- With codes of primitives and a routine for allocation that do what they are for within these pages, a call of the function of a body
-- comes to what the machine does from the body's first state, or is cut off.
abbrev pub BodiesEndWithinLimits : Type 0
BodiesEndWithinLimits =
    (plan : Plan) (link : Linkage) (table : List (Option ℕ)) (sees : ℕ → ℕ) (program : CodeProgram) (context : Context) (m : Module) (unit_steps pages : ℕ) → pages ≤ 65535
    → AllKeep plan told fell unit_steps context.head pages (65536 * pages) m low_host link → AllocationKeeps pages m low_host link → FunctionsAre plan link table sees context.globals m program
    → (members group block : ℕ) (seen : List Value) (b : Body) (e : BodyAt plan link table sees context.globals m members (length seen) b) (world : World) (g : Ghost) (top : ℕ) (store : Store HostWorld) → HeapHeld plan g world store top
    → NamesAt g store.memory link.names link.hidden context.globals → GroupsSee sees world → store.table ≡ table → 8 * block < 2 ^ 32 → BlockAt g store.memory block members group seen
    → (ws : List ℕ) (vs : List Value) → Reps g store.memory ws vs → length vs ≡ b.parameters → (turns : ℕ) → AskedFor program context turns world (first_state b group seen vs)
    → (calls room left : ℕ) → room < calls
    → EndsWithin plan link table sees context m unit_steps (enter calls pages m low_host room e.number left store (8 * block ∷ ws)) left pages room top store.world turns
    (run (code_machine program) context turns 0 0 [] world (first_state b group seen vs))

-- Behind a part of an execution that took steps and bytes of the heap, which were paid for, and printed.
abbrev pub CutsAddUp : Type 0
CutsAddUp =
    (unit_steps left steps later pages room top end paid weight deep deeper : ℕ) (called : Called HostWorld) (w whole : HostWorld) → left ≡ steps + later → steps ≤ (own_steps + unit_steps) * paid → 8 * end ≤ 8 * top + bytes_for paid
    → deep ≤ deeper → ShowsMore prints_of w whole → IsCutOff unit_steps later pages room end weight deep called w → IsCutOff unit_steps left pages room top (paid + weight) deeper called whole

-- Where an execution of a program has printed as much after some turns, and has come to such a weight and depth. Where other passes
-- stand above, it is to be exhausted under so many times the steps and the pages.
abbrev pub CutsAreResults : Type 0 → Type 0
CutsAreResults A =
    (times unit_steps left pages room top weight deep : ℕ) (called : Called HostWorld) (w : HostWorld) (x : Execution A) (turns first_memory charged : ℕ) → IsCutOff unit_steps left pages room top weight deep called w
    → times * (own_steps + unit_steps) ≤ 32768 → times * bytes_for 1 ≤ 256 → times * (8 * top) ≤ first_memory + 256 * charged → weight ≤ (x turns).weight → deep ≤ (x turns).depth → IsPrefix w.prints (x turns).prints
    → IsExhausted (times * left) room (times * pages) first_memory charged called x

abbrev pub HostShowsTexts : Type 0
HostShowsTexts = HostShows low_host told fell
