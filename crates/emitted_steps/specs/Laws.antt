-- The laws, as statements.
use Rattle.std.specs.Prelude.{⊤, ◌≡◌, ◌≤◌, ℕ, ◌+◌, List, Option, Some}
use Rattle.mo_types.specs.declared.node.Node.{Node}
use Rattle.mo_types.specs.declared.node.TypeId.{TypeId}
use Rattle.mo_types.specs.Label.{label_id}
use Rattle.mo_values.specs.Shapes.{Bytes, Tag, Made}
use Rattle.wasm_tree.specs.Exec.{Host}
use Rattle.core_ir.specs.declared.primitive.Constructor.TheVariants.{Tagged}
use Rattle.core_ir.specs.declared.primitive.Primitive.{Primitive}
use Rattle.core_ir.specs.Values.{Value}
use Rattle.core_ir.specs.Worlds.{World, Context}
use Rattle.core_ir.specs.Code.{Code, Match, CodeProgram}
use Rattle.core_ir.specs.CodeMachine.{Frame, State, value, settle, step, depth_of}
use Rattle.low_ir.specs.declared.op.Operand as low
use Rattle.low_ir.specs.Tree as tree
use Rattle.low_ir.specs.Tree.{Module}
use Rattle.low_ir.specs.Frames.{enter}
use Rattle.memory_routines.specs.Heaps.{heap_end, pages_for}
use Rattle.code_sequences.specs.Places.{Place}
use Rattle.heap_layout.specs.Ghosts.{Ghost}
use Rattle.heap_layout.specs.Heaps.{Plan}
use Rattle.heap_layout.specs.Table.{KeepsLine, words_for_levels, words_beside}
use Rattle.flat_emission.specs.Emission.{Linkage}
use Rattle.emitted_steps.specs.Operations.{HostShows, CodeKeeps, AllKeep, AllocationKeeps, routine_steps}
use Rattle.emitted_steps.specs.States.{Held}
use Rattle.emitted_steps.specs.Shortage.{StepsRunOut}
use Rattle.emitted_steps.specs.Modules.{FunctionsAre}
use Rattle.emitted_steps.specs.Steps.{Turn, rest_of, Matches}

-- The tag of a variant is this one, or has another number on the wire.
abbrev pub TagTold : Bytes → Value → Type 0
TagTold l (Made (Tag k) inside) = label_id l ≡ label_id k → l ≡ k
TagTold l v = ⊤

-- What is asked of the instruction that comes: where a tag is looked for, tags are told by their numbers.
abbrev pub Asked : Context → Frame → Code → Type 0
Asked context f (Match t (Tagged l) x y n c) = TagTold l (value context.globals f x)
Asked context f c = ⊤

-- Where low code stands as a state of structured code does, and the codes of primitives and the routine for allocation do what they are
-- for, low code goes on as the next step does, within steps and bytes that its weight pays for, or falls for want of steps or memory.
abbrev pub StepsAreFollowed : Type 0 → Type 0
StepsAreFollowed W =
    (plan : Plan) (link : Linkage) (table : List (Option ℕ)) (sees : ℕ → ℕ) (program : CodeProgram) (context : Context) (pages : ℕ) (m : Module) (host : Host W) (told fell : W → Bytes → W) (prints_of : W → List Bytes) (unit_steps total roof : ℕ) → StepsRunOut pages m host told fell prints_of → AllKeep plan told fell unit_steps context.head pages roof m host link
    → AllocationKeeps pages m host link → roof ≤ heap_end → pages_for roof ≤ pages → FunctionsAre plan link table sees context.globals m program
    → (world : World) (s : State) (g : Ghost) (c : Place W) (top : ℕ) (h : Held plan link table sees context total g world s c top) (turn : Turn s.code c) → Asked context s.frame (settle s.around s.code).code
    → Matches plan link table sees context pages m host told fell prints_of unit_steps total roof (rest_of plan link table sees context pages m host told fell prints_of unit_steps total roof h.here s.code c turn) c.left top (16 + s.frame.body.nodes + depth_of s.callers) c.store.world (step program context world s)

-- A call of a routine that keeps the line of a primitive, for values of as many levels as the stack has room for, is a code of it.
abbrev pub RoutinesDo : Type 0 → Type 0
RoutinesDo W =
    (head : TypeId → Node TypeId) (plan : Plan) (pages : ℕ) (m : Module) (host : Host W) (told fell : W → Bytes → W) → HostShows host told fell → (roof : ℕ) → roof ≤ heap_end → pages_for roof ≤ pages
    → (deep room f : ℕ) (p : Primitive) → ((most : ℕ) → words_for_levels most + words_beside ≤ deep → words_for_levels most + words_beside ≤ room → KeepsLine head plan host most pages (enter deep pages m host room) f p)
    → (to free : ℕ) (xs : List low.Operand) → CodeKeeps plan told fell routine_steps head pages roof m host deep room p to free xs (tree.Call (Some to) f xs tree.Stop)
