-- The laws, as statements.
use Rattle.std.specs.Prelude.{⊤, ◌≡◌, ℕ, ◌+◌, ◌*◌, ◌<◌, ◌≤◌, List, [], ◌∷◌, ◌++◌, length, replicate, None, Some, true, false, codes}
use Rattle.mo_num.specs.PrincipalText.{IsPrincipal}
use Rattle.ic0_world.specs.declared.kind.ExecutionKind.TheVariants as kind
use Rattle.wasm_tree.specs.Exec.{ExecutionLimits, Store}
use Rattle.mo_actor.specs.Measures.{Spent}
use Rattle.mo_actor.specs.Passes.{fresh_state}
use Rattle.mo_actor.specs.Results.{Result, HasResult}
use Rattle.mo_values.specs.Shapes.{Bytes, unit}
use Rattle.mo_values.specs.Views.{tuple_of}
use Rattle.core_ir.specs.Values.{Value, null, flag_value}
use Rattle.core_ir.specs.Worlds.{World}
use Rattle.core_ir.specs.Executions.{Starts, Replies, Traps, Stand, Still, Over, run, execution}
use Rattle.core_ir.specs.Code.{CodeProgram}
use Rattle.core_ir.specs.CodeMachine.{State, Waiting, code_machine}
use Rattle.core_ir.specs.Formed.{FormedFlat}
use Rattle.core_ir.specs.Messages.{Messages}
use Rattle.core_ir.specs.Actor.{Fields, alone, actor_program}
use Rattle.actor_refinement.specs.Ends.{EndsAlike}
use Rattle.actor_refinement.specs.Limits.{IsWithin}
use Rattle.low_ir.specs.declared.module_parts.LowExport.{LowExport}
use Rattle.wasm_tree.specs.declared.op.Conversion.TheVariants.{Wrap}
use Rattle.low_ir.specs.declared.op.Operand.TheVariants.{Local}
use Rattle.low_ir.specs.declared.op.Operation.TheVariants.{Convert}
use Rattle.low_ir.specs.Tree.{Set, Function, Module}
use Rattle.low_ir.specs.Meaning.{Calls}
use Rattle.code_sequences.specs.Laws.{Goes}
use Rattle.core_ir.specs.Choices.{nth}
use Rattle.low_rules.specs.Rule.{At}
use Rattle.memory_routines.specs.Heaps.{HoldsBytes}
use Rattle.heap_layout.specs.Ghosts.{Ghost, Inner}
use Rattle.heap_layout.specs.Means.{Rep, ValueAt}
use Rattle.heap_layout.specs.Heaps.{Plan}
use Rattle.heap_layout.specs.Later.{Later}
use Rattle.heap_layout.specs.Table.{bytes_for}
use Rattle.emitted_steps.specs.Operations.{HeapHeld}
use Rattle.emitted_steps.specs.Steps.{own_steps}
use Rattle.emitted_runs.specs.Runs.{AskedFor}
use Rattle.emitted_runs.specs.Bodies.{first_state}
use Rattle.operation_lines.specs.Laws.{operation_steps}
use Rattle.low_emit.specs.Texts.{texts_of, memory_of}
use Rattle.low_emit.specs.Modules.{Routine, heap_begin, module_with}
use Rattle.low_emit.specs.Emittable.{is_emittable}
use Rattle.low_refinement.specs.LowEnds.{contents_left, low_start_end}
use Rattle.linked_modules.specs.Begun.{first_world}
use Rattle.installed_actors.specs.Contents.{ContentsHold}
use Rattle.installed_actors.specs.Entry.{keeps, init_function, init_export}
use Rattle.installed_actors.specs.Unset.{BodiesRunUnset}

-- The values of names stand in their words, and all else is as it was.
pub record NamesKept {W : Type 0} (plan : Plan) (g : Ghost) (world : World) (store : Store W) (top first : ℕ) (names : List Value) (h : At W) : Type 0 where
  pub ghost : Ghost
  pub heap : HeapHeld plan ghost world h.store top
  pub later : Later g ghost store.memory h.store.memory
  pub set : (x : ℕ) → x < length names → ValueAt ghost h.store.memory (first + x) (nth unit names x)
  pub table : h.store.table ≡ store.table
  pub shown : h.store.world ≡ store.world
  pub spent : h.spent ≡ 3 + 6 * length names

-- The entry's code takes the values of names out of their tuple and into words that were the run time's own.
abbrev pub NamesAreKept : Type 0 → Type 0
NamesAreKept W =
    (plan : Plan) (g : Ghost) (world : World) (pages : ℕ) (m : Module) (calls : Calls W) (store : Store W) (top : ℕ) → HeapHeld plan g world store top
    → (first word : ℕ) (v : Value) (names : List Value) → Rep g store.memory word v → tuple_of v ≡ Some names → ((x : ℕ) → x < length names → g.own (first + x) ≡ Inner)
    → (a b : ℕ) → Goes pages m calls (Set 1 (Convert Wrap (Local 0)) (keeps first 0 (length names))) (λ h. NamesKept plan g world store top first names h) (record { spent = 0; store = store; locals = word ∷ a ∷ b ∷ [] })

-- what the start takes where nothing was kept
abbrev pub first_arguments : CodeProgram → List Value
first_arguments p = replicate (length p.stable) null ++ flag_value false ∷ []

-- The start gives so many values, as a tuple, or traps.
abbrev pub GivesNames : ℕ → Stand State Waiting → Type 0
GivesNames own (Still weight deep prints world s) = ⊤
GivesNames own (Over weight deep prints world (Replies v)) = (names : List Value) × (tuple_of v ≡ Some names) × (length names ≡ own)
GivesNames own (Over weight deep prints world (Traps text)) = ⊤
GivesNames own (Over weight deep prints world end) = ⊥

module _ {K : Type 0} (messages : Messages K) (p : CodeProgram) (own : ℕ) (id : Bytes) where
  -- What typing says of the start.
  pub record StartsWell : Type 0 where
    pub ends : (turns : ℕ) → GivesNames own (execution (code_machine p) (alone (code_machine p) messages p id []) turns first_world (Starts (replicate (length p.stable) null) false))
    pub asked : (turns : ℕ) → AskedFor p (alone (code_machine p) messages p id (replicate own unit)) turns first_world (first_state p.start 0 [] (first_arguments p))

-- The machine does the same where names that have no values are ().
abbrev pub UnsetNamesReadAsUnits : Type 0 → Type 0
UnsetNamesReadAsUnits K =
    (messages : Messages K) (p : CodeProgram) (own : ℕ) (id : Bytes) (turns : ℕ) (world : World) (s : State)
    → run (code_machine p) (alone (code_machine p) messages p id []) turns 0 0 [] world s ≡ run (code_machine p) (alone (code_machine p) messages p id (replicate own unit)) turns 0 0 [] world s

-- Where bodies that run before names have values leave the words of names alone, a low module whose first entry is that for installation
-- is installed as its program's actor is.
abbrev pub Installs : Type 0 → Type 0
Installs K =
    BodiesRunUnset → (messages : Messages K) (p : CodeProgram) (more : List Routine) (own first times : ℕ) → FormedFlat own p → is_emittable p more own ≡ true → own ≤ 8 + p.start.nodes → HoldsBytes (memory_of (texts_of p))
    → times * (own_steps + operation_steps) ≤ 32768 → times * bytes_for 1 ≤ 256 → times * (8 * heap_begin p more own) ≤ first → (entries : List Function) (exports : List LowExport)
    → (limits : ExecutionLimits) → IsWithin limits → (id : List ℕ) → IsPrincipal id → StartsWell messages p own id
    → (r : Result Fields) × HasResult (Spent (times * limits.steps) limits.stack (times * limits.pages)) first 0 ((actor_program (code_machine p) messages p first).start id None) r
    × EndsAlike (λ weight fields left. (made : ℕ) → ContentsHold p more own id {K = K} weight (fresh_state fields made) (contents_left left) []) r
    (low_start_end limits id (module_with p more own (init_function p more own ∷ entries) (init_export p more own ∷ exports)) kind.Init (codes "canister_init") [])
