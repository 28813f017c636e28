-- Calls of functions of bodies.
use Rattle.std.proofs.Common.{◌≡◌, ℕ, zero, suc, ◌+◌, ◌-◌, ◌*◌, ◌<◌, ◌≤◌, ◌^◌, List, [], ◌∷◌, ◌++◌, length, replicate, false, cond, nat_eq, nat_lt, Option, refl, sym, ap, ◌∙◌, subst, arith, length-append}
use Rattle.std.specs.Prelude.{slice_index}
use Rattle.std.proofs.lemmas.Bool.Decides.{nat_tests}
use Rattle.std.proofs.lemmas.List.{length-replicate}
use Rattle.mo_values.specs.Shapes.{Bytes, unit}
use Rattle.wasm_tree.specs.declared.trap.Trap.TheVariants as trap
use Rattle.wasm_tree.specs.declared.types.ValueType.{ValueType}
use Rattle.wasm_tree.specs.declared.types.ValueType.TheVariants.{I32, I64}
use Rattle.wasm_tree.specs.Exec.{Host, Store}
use Rattle.core_ir.specs.Choices.{on_some, nth}
use Rattle.core_ir.specs.Contexts.{call_context}
use Rattle.core_ir.specs.Programs.{Method}
use Rattle.core_ir.specs.Values.{Handle, Value, flag_value}
use Rattle.core_ir.specs.Worlds.{World, Context}
use Rattle.core_ir.specs.Executions.{after_step, run}
use Rattle.core_ir.specs.Code.{Body, CodeProgram}
use Rattle.core_ir.specs.CodeMachine.{begins, code_machine, go, stuck, first_of, frame_of}
use Rattle.low_ir.specs.Tree.{Module, Function}
use Rattle.low_ir.specs.Meaning as meaning
use Rattle.low_ir.specs.Meaning.{Called, Calls, Fell}
use Rattle.low_ir.specs.Frames.{words, finish, enter, enter_as}
use Rattle.memory_routines.specs.Heaps.{heap_end, pages_for}
use Rattle.code_sequences.specs.Places.{Place}
use Rattle.code_sequences.specs.Places as places
use Rattle.heap_layout.specs.Ghosts.{Ghost}
use Rattle.heap_layout.specs.Means.{Rep, Reps}
use Rattle.heap_layout.specs.Heaps.{Plan}
use Rattle.heap_layout.specs.Table.{words_beside}
use Rattle.flat_emission.specs.Emission.{Linkage, Here, here_of, function_of}
use Rattle.emitted_steps.specs.Operations.{AllKeep, AllocationKeeps, HeapHeld}
use Rattle.emitted_steps.specs.States.{NamesAt, BlockAt, GroupsSee, Held, words_for}
use Rattle.emitted_steps.specs.Modules.{FunctionsAre}
use Rattle.emitted_steps.specs.Shortage.{StepsRunOut}
use Rattle.emitted_steps.specs.Steps.{Usual}
use Rattle.emitted_steps.proofs.Calls.{reps_length}
use Rattle.emitted_steps.proofs.Frames.{equal_number}
use Rattle.emitted_runs.specs.Stands.{behind}
use Rattle.emitted_runs.specs.Runs.{AskedFor, deepest}
use Rattle.emitted_runs.specs.Bodies.{first_state, BodyAt}
use Rattle.emitted_runs.specs.Laws.{BodiesAreEntered, ExecutionsBegin}
use Rattle.emitted_runs.proofs.Behind.{gone}
use Rattle.emitted_runs.proofs.Runs.{walk, covers, To, runs}

not_below : (a b : ℕ) → b ≤ a → nat_lt a b ≡ false
not_below a b h = grind (arith, nat_tests)

-- ---- a frame that begins

zero_at : (k x : ℕ) → slice_index (replicate k 0) x ≡ 0
zero_at zero zero = refl
zero_at zero (suc x) = refl
zero_at (suc k) zero = refl
zero_at (suc k) (suc x) = zero_at k x

unit_at : (n x : ℕ) → nth unit (replicate n unit) x ≡ unit {F = Handle}
unit_at zero x = refl
unit_at (suc n) zero = refl
unit_at (suc n) (suc x) = unit_at n x

begun : (g : Ghost) (memory : List ℕ) (ws : List ℕ) (vs : List Value) (n k x : ℕ) → Reps g memory ws vs → Rep g memory (slice_index (ws ++ replicate k 0) x) (nth unit (vs ++ replicate n unit) x)
begun g memory [] [] n k x reps = subst (λ v. Rep g memory (slice_index (replicate k 0) x) v) (sym (unit_at n x)) (subst (λ w. Rep g memory w unit) (sym (zero_at k x)) (record { small = omega arith; means = refl }))
begun g memory [] (v ∷ vs) n k x reps = absurd reps
begun g memory (w ∷ ws) [] n k x reps = absurd reps
begun g memory (w ∷ ws) (v ∷ vs) n k zero reps = reps.0
begun g memory (w ∷ ws) (v ∷ vs) n k (suc x) reps = begun g memory ws vs n k x reps.1

locals_length : (slots most : ℕ) → length (replicate slots I64 ++ I32 ∷ I32 ∷ I64 ∷ replicate most I64) ≡ slots + suc (suc (suc most))
locals_length slots most =
    length-append (replicate slots I64) (I32 ∷ I32 ∷ I64 ∷ replicate most I64)
    ∙ ap (λ n. n + length (I32 ∷ I32 ∷ I64 ∷ replicate most I64)) (length-replicate {A = ValueType} slots I64)
    ∙ ap (λ n. slots + suc (suc (suc n))) (length-replicate {A = ValueType} most I64)

module _ (plan : Plan) (link : Linkage) (table : List (Option ℕ)) (sees : ℕ → ℕ) (program : CodeProgram) (context : Context) {W : Type 0} (pages : ℕ) (m : Module) (host : Host W) (told fell : W → Bytes → W) (prints_of : W → List Bytes) (unit_steps total roof : ℕ)
    (run_out : StepsRunOut pages m host told fell prints_of)
    (keep : AllKeep plan told fell unit_steps context.head pages roof m host link) (allocates : AllocationKeeps pages m host link) (low_roof : roof ≤ heap_end) (has_pages : pages_for roof ≤ pages) (are : FunctionsAre plan link table sees context.globals m program)
    (members group block : ℕ) (seen : List Value) (b : Body) (e : BodyAt plan link table sees context.globals m members (length seen) b) (world : World) (g : Ghost) (top : ℕ) (store : Store W) (heap : HeapHeld plan g world store top)
    (names : NamesAt g store.memory link.names link.hidden context.globals) (groups : GroupsSee sees world) (table_is : store.table ≡ table) (low : 8 * block < 2 ^ 32) (at_block : BlockAt g store.memory block members group seen)
    (ws : List ℕ) (vs : List Value) (reps : Reps g store.memory ws vs) (arity : length vs ≡ b.parameters) (deep room : ℕ) (deeper : total + words_beside ≤ deep) (wide : total + words_beside ≤ room) (over : words_for (16 + b.nodes) ≤ total) where
  abbrev fn : Function
  fn = function_of plan link members b

  abbrev frame_words : ℕ
  frame_words = words e.type fn

  abbrev first_place : ℕ → Place W
  first_place left = record { code = fn.body; left = left; store = store; locals = (8 * block ∷ ws) ++ replicate (length fn.locals) 0; around = []; deep = deep; room = room - frame_words; type = e.type; callers = [] }

  begins_is : (left : ℕ) → enter (suc deep) pages m host room e.number left store (8 * block ∷ ws) ≡ places.rest_of pages m host (first_place left)
  begins_is left =
      let inner : ℕ → Calls W = λ (room : ℕ). enter deep pages m host room in
      (λ i. enter_as pages m host room inner (e.typed i) (e.is_defined i) e.number left store (8 * block ∷ ws))
      ∙ ap (λ x. cond x (Fell trap.Stack store) (finish e.type (meaning.run pages m (inner (room - frame_words)) fn.body (record { left = left; store = store; locals = (8 * block ∷ ws) ++ replicate (length fn.locals) 0 })))) (not_below room frame_words (let w = e.frame in omega (arith, w, wide, over)))

  abbrev first_held : (left : ℕ) → Held plan link table sees context total g world (first_state b group seen vs) (first_place left) top
  first_held left =
      let here : Here = here_of members b in
      let given_size : length ws ≡ b.parameters = reps_length g store.memory ws vs reps ∙ arity in
      let locals_size : length fn.locals ≡ (b.slots - b.parameters) + suc (suc (suc here.most)) = locals_length (b.slots - b.parameters) here.most in
      record {
        here = here;
        code = refl;
        fits = e.fits;
        frame = record {
          long = ap suc (length-append ws (replicate (length fn.locals) 0)) ∙ (λ i. suc (given_size i + length-replicate {A = ℕ} (length fn.locals) 0 i)) ∙ (let p = e.parameters in omega (arith, locals_size, p));
          slots = λ x lt. begun g store.memory ws vs b.slots (length fn.locals) x reps;
          b = block;
          block_is = refl;
          low = low;
          block = at_block;
        };
        around = tt;
        callers = tt;
        heap = heap;
        names = names;
        groups = groups;
        table_is = table_is;
        results = e.results;
        room = let w = e.frame in omega (arith, w, wide, over);
        deep = omega (arith, deeper);
        within = omega (arith, over);
      }

  pub body_entered : (turns left : ℕ) → AskedFor program context turns world (first_state b group seen vs) → words_for (deepest (walk program context turns world (first_state b group seen vs))) ≤ total
      → To plan link table sees program context pages m host told fell prints_of unit_steps total roof run_out (enter (suc deep) pages m host room e.number left store (8 * block ∷ ws)) left top store.world turns (walk program context turns world (first_state b group seen vs))
  body_entered turns left asked words =
      subst (λ o. To plan link table sees program context pages m host told fell prints_of unit_steps total roof run_out o left top store.world turns (walk program context turns world (first_state b group seen vs))) (sym (begins_is left))
      (runs plan link table sees program context pages m host told fell prints_of unit_steps total roof run_out keep allocates low_roof has_pages are turns world (first_state b group seen vs) g (first_place left) top (first_held left) Usual asked words)

pub bodies_entered : (W : Type 0) → BodiesAreEntered W
bodies_entered W plan link table sees program context pages m host told fell prints_of unit_steps total roof run_out keep allocates low_roof has_pages are members group block seen b e world g top store heap names groups table_is low at_block ws vs reps arity deep room deeper wide turns left asked words =
    let k = covers program context turns world (first_state b group seen vs) in
    body_entered plan link table sees program context pages m host told fell prints_of unit_steps total roof run_out keep allocates low_roof has_pages are members group block seen b e world g top store heap names groups table_is low at_block ws vs reps arity deep room deeper wide (omega (arith, k, words)) turns left asked words

begun_with : (program : CodeProgram) (context : Context) (world : World) (turns paid : ℕ) (b : Body) (vs : List Value) → length vs ≡ b.parameters
    → after_step (run (code_machine program) context turns) 0 0 0 [] (begins program context world paid b vs) ≡ behind (paid + (1 + b.nodes)) 0 [] (walk program context turns world (first_state b 0 [] vs))
begun_with program context world turns paid b vs arity =
    ap (λ t. after_step (run (code_machine program) context turns) 0 0 0 [] (cond t (go (paid + (1 + b.nodes)) world (first_of b.segments) [] (frame_of b 0 [] vs) []) (stuck world)))
    (ap (λ n. nat_eq n b.parameters) arity ∙ equal_number b.parameters)
    ∙ gone (code_machine program) context turns 0 (record { weight = paid + (1 + b.nodes); levels = 0 }) [] world (first_state b 0 [] vs)

pub executions : ExecutionsBegin
executions program context world turns = (
  λ place method caller vs is arity.
      ap (λ o. after_step (run (code_machine program) context turns) 0 0 0 [] (on_some (stuck world) o (λ (method : Method Body). begins program context world (2 + length caller) method.body (call_context caller ∷ vs)))) is
      ∙ begun_with program context world turns (2 + length caller) method.body (call_context caller ∷ vs) arity,
  λ none. begun_with program context world turns 0 program.save [] none,
  λ kept upgraded arity. begun_with program context world turns 0 program.start (kept ++ flag_value upgraded ∷ []) arity,
)
