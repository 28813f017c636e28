-- An actor is installed.
use Rattle.std.proofs.Common.{◌≡◌, ◌⊎◌, inl, inr, ℕ, zero, suc, ◌+◌, ◌*◌, ◌-◌, ◌^◌, ◌<◌, ◌≤◌, List, [], ◌∷◌, ◌++◌, length, map, replicate, max, Bool, true, false, ◌&&◌, cond, nat_lt, nat_le, nat_eq, Option, Some, None, codes, refl, sym, ap, ◌∙◌, subst, arith, length-append}
use Rattle.std.specs.Prelude.{slice_get}
use Rattle.std.proofs.Math.Nat.{mul-le-mul_left}
use Rattle.wasm_tree.specs.declared.op.Conversion.TheVariants.{Wrap}
use Rattle.low_ir.specs.declared.op.Operand.TheVariants.{Local}
use Rattle.low_ir.specs.declared.op.Operation.TheVariants.{Convert}
use Rattle.low_ir.specs.Tree as code
use Rattle.code_sequences.specs.Laws.{Goes}
use Rattle.emitted_steps.specs.Steps as steps
use Rattle.low_execution.specs.Entries.{low_exported}
use Rattle.std.proofs.lemmas.Bool.Decides.{nat_tests}
use Rattle.std.proofs.lemmas.List.{length-map, length-replicate}
use Rattle.play_script.specs.declared.item.Word.TheVariants as word
use Rattle.mo_values.specs.Shapes.{Bytes, unit}
use Rattle.mo_values.specs.Views.{tuple_of}
use Rattle.wasm_tree.specs.declared.trap.Trap.{Trap}
use Rattle.wasm_tree.specs.declared.trap.Trap.TheVariants as trap
use Rattle.wasm_tree.specs.Imports.{entry_type}
use Rattle.wasm_tree.specs.Rules.{or_no}
use Rattle.wasm_tree.specs.Exec.{ExecutionLimits, Store, same_type}
use Rattle.wasm_tree.specs.Load.{Loaded, AboveLimit}
use Rattle.ic0_world.specs.declared.kind.ExecutionKind.TheVariants as kind
use Rattle.ic0_world.specs.declared.world.World.{World as HostWorld}
use Rattle.canister_host.specs.Execution.{End, entered_as, store_of, word_of}
use Rattle.canister_host.specs.HostRun.{quiet_world, entry_of}
use Rattle.mo_actor.specs.Executions.{Execution, Progress, Completes}
use Rattle.mo_actor.specs.Measures.{Spent}
use Rattle.mo_actor.specs.Passes.{fresh_state}
use Rattle.mo_actor.specs.Results.{Result, Completed, Trapped, Exhausted, HasResult, IsPrefix}
use Rattle.actor_refinement.specs.Ends.{EndsAlike}
use Rattle.actor_refinement.specs.Limits.{IsWithin}
use Rattle.core_ir.specs.Choices.{nth, on_some}
use Rattle.core_ir.specs.Values.{Handle, Value, null, flag_value}
use Rattle.core_ir.specs.Worlds.{World, Context}
use Rattle.core_ir.specs.Executions.{Starts, Replies, Rejects, Waits, Traps, Stand, Still, Over, after_step, run, execution}
use Rattle.core_ir.specs.Executions as machine
use Rattle.core_ir.specs.Programs.{Group, Method}
use Rattle.core_ir.specs.Code.{Body, CodeProgram}
use Rattle.flat_emission.specs.Emission.{function_of}
use Rattle.core_ir.specs.CodeMachine.{State, Waiting, code_machine, go, stuck, first_of, frame_of}
use Rattle.core_ir.specs.Formed.{FormedFlat, sees_at, global_count}
use Rattle.core_ir.specs.Messages.{Messages}
use Rattle.core_ir.specs.Actor.{Fields, alone, outer_names, start_progress, actor_program}
use Rattle.low_ir.specs.declared.module_parts.LowExport.{LowExport}
use Rattle.low_ir.specs.Tree.{Function, Module}
use Rattle.low_ir.specs.Numbering.{host_count, host_types, host_signatures, all_types, all_signatures, type_of, defined}
use Rattle.low_ir.specs.Meaning.{Called, Gave, Fell, Lost, Outcome, Ends}
use Rattle.low_ir.specs.Meaning as low
use Rattle.low_ir.specs.Frames.{words, finish, enter, enter_as, height, depth}
use Rattle.low_ir.proofs.Numbers.{host_types_counted, host_signatures_counted}
use Rattle.low_execution.specs.Execution.{low_end, low_run, then_go, low_execution}
use Rattle.low_execution.specs.Host.{low_host}
use Rattle.low_execution.specs.Loading.{first_instance}
use Rattle.low_rules.specs.Rule.{state}
use Rattle.memory_routines.specs.Heaps.{pages_for, HoldsBytes}
use Rattle.heap_layout.specs.Ghosts.{Ghost, Fixed, Inner, Free}
use Rattle.heap_layout.specs.Means.{Reps, ValueAt}
use Rattle.heap_layout.specs.Table.{bytes_for}
use Rattle.emitted_steps.specs.Operations.{HeapHeld, told_all}
use Rattle.emitted_steps.specs.States.{words_for}
use Rattle.emitted_steps.specs.Steps.{own_steps}
use Rattle.emitted_steps.specs.Shortage.{RunsOut}
use Rattle.emitted_runs.specs.Stands.{behind}
use Rattle.emitted_runs.specs.Runs.{weight_of, deep_of, shown_by}
use Rattle.emitted_runs.specs.Bodies.{first_state}
use Rattle.emitted_runs.proofs.Entered.{executions}
use Rattle.limited_runs.specs.Shown.{told, fell, prints_of}
use Rattle.limited_runs.specs.Cuts.{IsCutOff, Wants}
use Rattle.operation_lines.specs.Laws.{operation_steps}
use Rattle.emitted_modules.specs.Laws.{first_table}
use Rattle.emitted_modules.proofs.Lists.{first, second, get_behind, get_map}
use Rattle.emitted_modules.proofs.Standing.{functions_stand}
use Rattle.low_emit.specs.Texts.{texts_of, memory_of}
use Rattle.low_emit.specs.Modules.{Routine, plan, link, base, hidden, heap_begin, routines, functions_from, of_groups, alone as alone_function, functions, all_bodies, number_of_start, module_with}
use Rattle.low_emit.specs.Emittable.{is_emittable, is_treated_body, is_one_segment, are_treated, are_treated_groups}
use Rattle.low_refinement.specs.LowEnds.{contents_left, low_start_end, low_loaded_end}
use Rattle.linked_modules.specs.Begun.{begun_ghost, first_owner, first_world}
use Rattle.linked_modules.specs.Laws.{Begins}
use Rattle.linked_modules.proofs.Linking.{primitives_kept}
use Rattle.linked_modules.proofs.First.{memories_begin}
use Rattle.installed_actors.specs.Contents.{ContentsHold}
use Rattle.installed_actors.specs.Entry.{keeps, init_function, init_export}
use Rattle.installed_actors.specs.Unset.{NamesUnset, BodiesRunUnset, EndsUnset, RepliedUnset}
use Rattle.installed_actors.specs.Laws.{first_arguments, GivesNames, StartsWell, NamesKept, Installs}
use Rattle.installed_actors.proofs.Padded.{unset_as_units}
use Rattle.installed_actors.proofs.Keeping.{names_kept}
use Rattle.installed_actors.proofs.Calling.{after, whole, called, finished, start_words, arguments_length}
use Rattle.installed_actors.proofs.Shares.{out_of, progress_of, facts, first_deep, told_prints, shown_prints, steps_used, pages_used}

-- ---- lists

nth_behind : (xs ys : List Value) (y : ℕ) → nth unit (xs ++ ys) (length xs + y) ≡ nth unit ys y
nth_behind [] ys y = ap (nth unit ys) (omega arith)
nth_behind (x ∷ xs) ys y = let e : suc (length xs) + y ≡ suc (length xs + y) = omega arith in ap (nth unit (x ∷ (xs ++ ys))) e ∙ nth_behind xs ys y

units : (n y : ℕ) → nth unit (replicate n unit) y ≡ unit {F = Handle}
units zero y = refl
units (suc n) zero = refl
units (suc n) (suc y) = units n y

nulls : (g : Ghost) (memory : List ℕ) (n : ℕ) → Reps g memory (replicate n 0 ++ 0 ∷ []) (replicate n null ++ flag_value false ∷ [])
nulls g memory zero = (record { small = omega arith; means = refl }, tt)
nulls g memory (suc n) = (record { small = omega arith; means = refl }, nulls g memory n)

arguments_count : (n : ℕ) → length (replicate n null ++ flag_value false ∷ []) ≡ n + 1
arguments_count zero = refl
arguments_count (suc n) = let e = arguments_count n in omega (arith, e)

-- ---- the entry

keeps_low : (at k count : ℕ) → height (keeps at k count) ≤ 2
keeps_low at k zero = omega arith
keeps_low at k (suc count) = let h = keeps_low at (suc k) count in omega (arith, h)

keeps_flat : (at k count : ℕ) → depth (keeps at k count) ≡ 0
keeps_flat at k zero = refl
keeps_flat at k (suc count) = keeps_flat at (suc k) count

module _ {K : Type 0} (run_unset : BodiesRunUnset) (messages : Messages K) (p : CodeProgram) (more : List Routine) (own first_bytes times : ℕ) (formed : FormedFlat own p) (emits : is_emittable p more own ≡ true) (few_names : own ≤ 8 + p.start.nodes) (bytes : HoldsBytes (memory_of (texts_of p)))
    (share : times * (own_steps + operation_steps) ≤ 32768) (byte_share : times * bytes_for 1 ≤ 256) (paid : times * (8 * heap_begin p more own) ≤ first_bytes) (entries : List Function) (exports : List LowExport)
    (limits : ExecutionLimits) (within : IsWithin limits) (id : List ℕ) (well : StartsWell messages p own id) where
  abbrev entries_now : List Function
  entries_now = init_function p more own ∷ entries

  abbrev exports_now : List LowExport
  exports_now = init_export p more own ∷ exports

  abbrev m : Module
  m = module_with p more own entries_now exports_now

  abbrev short : Context
  short = alone (code_machine p) messages p id []

  abbrev padded : Context
  padded = alone (code_machine p) messages p id (replicate own unit)

  abbrev stable : ℕ
  stable = length p.stable

  abbrev s0 : State
  s0 = first_state p.start 0 [] (first_arguments p)

  abbrev stand : ℕ → Stand State Waiting
  stand turns = run (code_machine p) padded turns 0 0 [] first_world s0

  abbrev paid_first : ℕ
  paid_first = 0 + (1 + p.start.nodes)

  abbrev x : Execution Fields
  x = (actor_program (code_machine p) messages p first_bytes).start id None

  -- ---- the execution of the program

  arity : length (first_arguments p) ≡ p.start.parameters
  arity = by (nat_eq (length (first_arguments p)) p.start.parameters) refl (well.ends 0)
    where
      by : (t : Bool) → nat_eq (length (first_arguments p)) p.start.parameters ≡ t
          → GivesNames own (after_step (run (code_machine p) short 0) 0 0 0 [] (cond (nat_eq (length (first_arguments p)) p.start.parameters) (go (0 + (1 + p.start.nodes)) first_world (first_of p.start.segments) [] (frame_of p.start 0 [] (first_arguments p)) []) (stuck first_world))) → length (first_arguments p) ≡ p.start.parameters
      by true e h = grind (arith, nat_tests, e)
      by false e h = absurd (subst (λ t. GivesNames own (after_step (run (code_machine p) short 0) 0 0 0 [] (cond t (go (0 + (1 + p.start.nodes)) first_world (first_of p.start.segments) [] (frame_of p.start 0 [] (first_arguments p)) []) (stuck first_world)))) e h)

  execution_is : (turns : ℕ) → execution (code_machine p) short turns first_world (Starts (replicate stable null) false) ≡ behind paid_first 0 [] (stand turns)
  execution_is turns = (executions p short first_world turns).2 (replicate stable null) false arity ∙ ap (behind paid_first 0 []) (unset_as_units K messages p own id turns first_world s0)

  x_is : (turns : ℕ) → x (suc turns) ≡ progress_of messages p paid_first (stand turns)
  x_is turns = ap (start_progress (code_machine p) messages p) (execution_is turns)

  gives : (turns : ℕ) → GivesNames own (behind paid_first 0 [] (stand turns))
  gives turns = subst (GivesNames own) (execution_is turns) (well.ends turns)

  x_weight : (turns : ℕ) → (x (suc turns)).weight ≡ paid_first + weight_of (stand turns)
  x_weight turns = ap (λ (q : Progress Fields). q.weight) (x_is turns) ∙ (facts messages p paid_first (stand turns)).weight

  x_depth : (turns : ℕ) → (x (suc turns)).depth ≡ deep_of (stand turns)
  x_depth turns = ap (λ (q : Progress Fields). q.depth) (x_is turns) ∙ (facts messages p paid_first (stand turns)).deep

  x_prints : (turns : ℕ) → (x (suc turns)).prints ≡ out_of (stand turns)
  x_prints turns = ap (λ (q : Progress Fields). q.prints) (x_is turns) ∙ (facts messages p paid_first (stand turns)).prints

  -- ---- few parameters

  treated_start : is_treated_body (plan p more own) (link p more own) (hidden p more own) p.start ≡ true
  treated_start =
      first (is_treated_body (plan p more own) (link p more own) (hidden p more own) p.start) (nat_le (8 * heap_begin p more own) (2 ^ 31))
      (second (are_treated (plan p more own) (link p more own) (hidden p more own) (map (λ m. m.body) p.methods)) (is_treated_body (plan p more own) (link p more own) (hidden p more own) p.start && nat_le (8 * heap_begin p more own) (2 ^ 31))
      (second (are_treated_groups (plan p more own) (link p more own) (hidden p more own) p.groups)
      (are_treated (plan p more own) (link p more own) (hidden p more own) (map (λ m. m.body) p.methods) && (is_treated_body (plan p more own) (link p more own) (hidden p more own) p.start && nat_le (8 * heap_begin p more own) (2 ^ 31))) emits))

  few_stable : stable + 1 ≤ 8 + p.start.nodes
  few_stable =
      let le : p.start.parameters ≤ 8 + p.start.nodes = grind (arith, nat_tests, second (is_one_segment (plan p more own) (link p more own) (hidden p more own) p.start.segments) (nat_le p.start.parameters (8 + p.start.nodes)) treated_start) in
      let a = arity in let b = arguments_count stable in omega (arith, le, a, b)

  -- ---- where the entry stands

  length_routines : (signature : ℕ) (rs : List Routine) → length (functions_from p more own signature rs) ≡ length rs
  length_routines signature [] = refl
  length_routines signature (r ∷ rs) = ap suc (length_routines (suc signature) rs)

  length_groups : (gs : List (Group Body)) → length (of_groups p more own gs) ≡ all_bodies gs
  length_groups [] = refl
  length_groups (g ∷ gs) =
      let long : length (map (function_of (plan p more own) (link p more own) (length g.bodies)) g.bodies) ≡ length g.bodies = length-map g.bodies (function_of (plan p more own) (link p more own) (length g.bodies)) in
      let rest : length (of_groups p more own gs) ≡ all_bodies gs = length_groups gs in
      length-append (map (function_of (plan p more own) (link p more own) (length g.bodies)) g.bodies) (of_groups p more own gs) ∙ (λ i. long i + rest i)

  functions_count : length (functions p more own) ≡ length (routines p more own) + (all_bodies p.groups + (length p.methods + 1))
  functions_count =
      let a = length-append (functions_from p more own (suc host_count) (routines p more own)) (of_groups p more own p.groups ++ (map (λ (m : Method Body). alone_function p more own m.body) p.methods ++ alone_function p more own p.start ∷ [])) in
      let b = length-append (of_groups p more own p.groups) (map (λ (m : Method Body). alone_function p more own m.body) p.methods ++ alone_function p more own p.start ∷ []) in
      let c = length-append (map (λ (m : Method Body). alone_function p more own m.body) p.methods) (alone_function p more own p.start ∷ []) in
      let d : length (map (λ (m : Method Body). alone_function p more own m.body) p.methods) ≡ length p.methods = length-map p.methods (λ (m : Method Body). alone_function p more own m.body) in
      let e = length_routines (suc host_count) (routines p more own) in
      let f = length_groups p.groups in
      omega (arith, a, b, c, d, e, f)

  abbrev place : ℕ
  place = length (functions p more own)

  abbrev f : ℕ
  f = suc (number_of_start p more own)

  f_is : f ≡ host_count + place
  f_is = let c = functions_count in omega (arith, c)

  entry_there : slice_get m.functions place ≡ Some (init_function p more own)
  entry_there = ap (slice_get m.functions) (let e : place ≡ place + 0 = omega arith in e) ∙ get_behind (functions p more own) entries_now 0

  entry_defined : defined m f ≡ Some (init_function p more own)
  entry_defined =
      let not_host : nat_lt (host_count + place) host_count ≡ false = grind (arith, nat_tests) in
      let same : host_count + place - host_count ≡ place = omega arith in
      ap (defined m) f_is ∙ ap (λ t. cond t None (slice_get m.functions (host_count + place - host_count))) not_host ∙ ap (slice_get m.functions) same ∙ entry_there

  entry_typed : type_of m f ≡ Some entry_type
  entry_typed =
      let number : slice_get (all_signatures m) (host_count + place) ≡ Some host_count =
      ap (λ n. slice_get (all_signatures m) (n + place)) (sym host_signatures_counted)
      ∙ get_behind host_signatures (map (λ (f : Function). f.signature) m.functions) place
      ∙ get_map (λ (f : Function). f.signature) m.functions place (init_function p more own) entry_there in
      ap (type_of m) f_is ∙ ap (λ n. or_no n (slice_get (all_types m))) number
      ∙ ap (slice_get (all_types m)) (let e : host_count ≡ host_count + 0 = refl in e)
      ∙ ap (λ n. slice_get (all_types m) (n + 0)) (sym host_types_counted) ∙ get_behind host_types m.types 0

  abbrev entry_words : ℕ
  entry_words = words entry_type (init_function p more own)

  words_few : entry_words ≤ 20 + p.start.nodes
  words_few =
      let a = arguments_length stable in let b = keeps_low (base p more own + hidden p more own) 0 own in let c = keeps_flat (base p more own + hidden p more own) 0 own in let d = few_stable in
      omega (arith, a, b, c, d)

  -- ---- the heap at first

  abbrev begun : Begins p more own entries_now exports_now
  begun = memories_begin p more own emits bytes entries_now exports_now

  abbrev entered : Store HostWorld
  entered = entered_as kind.Init (store_of (first_instance m) (quiet_world limits id []))

  held_first : HeapHeld (plan p more own) (begun_ghost p more own) first_world entered (heap_begin p more own)
  held_first = record { count = pages_for (8 * heap_begin p more own); others = []; is = refl; holds = begun.holds }

  outer_count : length (outer_names id p.methods) ≡ hidden p more own
  outer_count = ap suc (length-map p.methods _)

  padded_count : length padded.globals ≡ global_count p own
  padded_count =
      let a = length-append (outer_names id p.methods) (replicate own unit) in let b = outer_count in let c : length (replicate own (unit {F = Handle})) ≡ own = length-replicate {A = Value} own unit in
      omega (arith, a, b, c)

  is_inner : (i : ℕ) → base p more own ≤ i → i < heap_begin p more own → first_owner p more own i ≡ Inner
  is_inner i le lt =
      let e : nat_lt i (base p more own) ≡ false = grind (arith, nat_tests, le) in
      let k : nat_lt i (heap_begin p more own) ≡ true = grind (arith, nat_tests, lt) in
      (λ j. cond (e j) Fixed (cond (k j) Inner Free))

  unset_first : NamesUnset (begun_ghost p more own) entered.memory (base p more own) (hidden p more own) padded.globals
  unset_first z le lt =
      let c = padded_count in let o = outer_count in
      let y : ℕ = z - hidden p more own in
      let at : z ≡ length (outer_names id p.methods) + y = omega (arith, o, le) in (
        ap (nth unit padded.globals) at ∙ nth_behind (outer_names id p.methods) (replicate own unit) y ∙ units own y,
        is_inner (base p more own + z) (omega arith) (omega (arith, lt, c)),
        begun.names (base p more own + z) (omega arith) (omega (arith, lt, c)),
      )

  abbrev room : ℕ
  room = limits.stack - entry_words

  abbrev called_start : ℕ → Called HostWorld
  called_start left = enter limits.stack limits.pages m low_host room (number_of_start p more own) left entered (start_words stable)

  runs_start : entry_words ≤ limits.stack → (turns left : ℕ)
      → EndsUnset (plan p more own) (link p more own) (first_table p more own) (sees_at p.groups) padded m operation_steps (called_start left) left limits.pages room (heap_begin p more own) entered.world turns (stand turns)
  runs_start fits turns left =
      let pages_few : limits.pages ≤ 65535 = let w = within.most_pages in omega (arith, w) in
      let kept = primitives_kept p more own entries_now exports_now limits.pages pages_few in
      let are = functions_stand p more own formed emits padded.globals padded_count entries_now exports_now in
      subst (λ n. EndsUnset (plan p more own) (link p more own) (first_table p more own) (sees_at p.groups) padded m operation_steps (enter limits.stack limits.pages m low_host room n left entered (start_words stable)) left limits.pages room (heap_begin p more own) entered.world turns (stand turns)) are.1.start_number
      (run_unset (plan p more own) (link p more own) (first_table p more own) (sees_at p.groups) p padded m operation_steps limits.pages pages_few kept.0 kept.1 are.0 0 0 0 [] p.start are.1.start first_world (begun_ghost p more own) (heap_begin p more own) entered held_first unset_first
      (λ k made e. absurd (cc e)) begun.table (omega arith) (record { captured = λ y lt. absurd (omega (arith, lt)); member = λ k lt. absurd (omega (arith, lt)) })
      (replicate stable 0 ++ 0 ∷ []) (first_arguments p) (nulls (begun_ghost p more own) entered.memory stable) arity turns (well.asked turns) limits.stack room left (omega (arith, fits)))

  -- ---- how it ends

  abbrev Leaves : ℕ → Fields → Store HostWorld → Type 0
  Leaves weight fields left = (made : ℕ) → ContentsHold p more own id {K = K} weight (fresh_state fields made) (contents_left left) []

  abbrev Final : End → Type 0
  Final end =
      (r : Result Fields) × HasResult (Spent (times * limits.steps) limits.stack (times * limits.pages)) first_bytes 0 x r × EndsAlike Leaves r end

  abbrev ended : Outcome HostWorld → End
  ended o = low_end (then_go (finish entry_type o) (low_run limits m []))

  abbrev U : ℕ
  U = own_steps + operation_steps

  some_deep : (turns : ℕ) → 16 + p.start.nodes ≤ deep_of (stand (suc turns))
  some_deep turns = let k = first_deep p padded turns first_world s0 in omega (arith, k)

  -- Steps are lacking, after a part of the prints.
  lacks_steps : (o : Outcome HostWorld) (turns : ℕ) (store : Store HostWorld) (shown : HostWorld) → o ≡ low.Breaks trap.Steps store → IsPrefix store.world.prints (out_of (stand turns)) → limits.steps ≤ U * (1 + p.start.nodes + weight_of (stand turns)) → Final (ended o)
  lacks_steps o turns store shown is begun_prints used =
      let w = x_weight turns in
      subst (λ o. Final (ended o)) (sym is) (
        Exhausted store.world.prints word.Steps,
        (
          suc turns,
          refl,
          subst (λ l. IsPrefix store.world.prints l) (sym (x_prints turns)) begun_prints,
          subst (λ n. times * limits.steps ≤ 32768 * (n + 1)) (sym w) (let k = steps_used times share byte_share limits.steps (1 + p.start.nodes + weight_of (stand turns)) used in omega (arith, k)),
        ),
        (refl, refl),
      )

  -- The call of the start was cut off.
  cut : (fits : entry_words ≤ limits.stack) (o : Outcome HostWorld) (turns n : ℕ) (called : Called HostWorld) → limits.steps ≡ stable + 3 + n → o ≡ after limits.pages m limits.stack room (number_of_start p more own) stable (base p more own + hidden p more own) own called
      → IsCutOff operation_steps n limits.pages room (heap_begin p more own) (weight_of (stand (suc turns))) (deep_of (stand (suc turns))) called (shown_by told fell entered.world (stand (suc turns))) → Final (ended o)
  cut fits o turns n called count is c = by c.cause c.is c.want
    where
      prints_begin : IsPrefix c.store.world.prints (out_of (stand (suc turns)))
      prints_begin = (c.part.more, sym (shown_prints entered.world (stand (suc turns))) ∙ c.part.is)

      broken : (cause : Trap) → called ≡ Fell cause c.store → o ≡ low.Breaks cause c.store
      broken cause e = is ∙ ap (after limits.pages m limits.stack room (number_of_start p more own) stable (base p more own + hidden p more own) own) e

      shown_first : IsPrefix c.store.world.prints (x (suc (suc turns))).prints
      shown_first = subst (λ l. IsPrefix c.store.world.prints l) (sym (x_prints (suc turns))) prints_begin

      by : (cause : Trap) → called ≡ Fell cause c.store → Wants operation_steps n limits.pages room (heap_begin p more own) (weight_of (stand (suc turns))) (deep_of (stand (suc turns))) cause c.store → Final (ended o)
      by trap.Steps e want = lacks_steps o (suc turns) c.store entered.world (broken trap.Steps e) prints_begin (let k = few_stable in omega (arith, count, want, k))
      by trap.Stack e want =
          subst (λ o. Final (ended o)) (sym (broken trap.Stack e)) (
            Exhausted c.store.world.prints word.Stack,
            (
              suc (suc turns),
              refl,
              shown_first,
              subst (λ d. limits.stack ≤ 8 * d + 4096) (sym (x_depth (suc turns))) (let a = words_few in let d = some_deep turns in omega (arith, want, fits, a, d)),
            ),
            (refl, refl),
          )
      by trap.Unreachable e want =
          subst (λ o. Final (ended o)) (sym (broken trap.Unreachable e)) (
            Exhausted c.store.world.prints word.Heap,
            (
              suc (suc turns),
              refl,
              shown_first,
              subst (λ n. 65536 * (times * limits.pages) ≤ first_bytes + 256 * (n + 0 + 1)) (sym (x_weight (suc turns))) (pages_used times share byte_share limits.pages (heap_begin p more own) (weight_of (stand (suc turns))) (paid_first + weight_of (stand (suc turns))) first_bytes paid (omega arith) want.1),
            ),
            (refl, ap (λ refused. word_of (cond refused true c.store.world.stable_refused) c.store.world.trap_text trap.Unreachable) (sym want.0)),
          )
      by trap.Bounds e want = absurd want
      by trap.DivideByZero e want = absurd want
      by trap.Overflow e want = absurd want
      by trap.Indirect e want = absurd want
      by trap.Host e want = absurd want

  abbrev first_name : ℕ
  first_name = base p more own + hidden p more own

  abbrev After : Called HostWorld → Outcome HostWorld
  After c = after limits.pages m limits.stack room (number_of_start p more own) stable first_name own c

  -- The start has given the values of names.
  replied : (o : Outcome HostWorld) (turns n : ℕ) (called : Called HostWorld) → limits.steps ≡ stable + 3 + n → o ≡ After called → (weight deep : ℕ) (prints : List Bytes) (world : World) (v : Value) → stand (suc turns) ≡ Over weight deep prints world (Replies v)
      → RepliedUnset (plan p more own) (link p more own) (first_table p more own) (sees_at p.groups) padded m operation_steps called n (heap_begin p more own) (told_all told entered.world prints) weight world v
      → (names : List Value) → tuple_of v ≡ Some names → length names ≡ own → Final (ended o)
  replied o turns n called count is weight deep prints world v stand_is r names tuple_is len = by (finished limits.pages m limits.stack room (number_of_start p more own) stable first_name own r.store r.word r.rest (λ h. NamesKept (plan p more own) r.ghost world r.store r.end first_name names h) goes goes.holds.shown)
    where
      goes : Goes limits.pages m (enter limits.stack limits.pages m low_host room) (code.Set 1 (Convert Wrap (Local 0)) (keeps first_name 0 own)) (λ h. NamesKept (plan p more own) r.ghost world r.store r.end first_name names h) (record { spent = 0; store = r.store; locals = r.word ∷ 0 ∷ 0 ∷ [] })
      goes =
          subst (λ k. Goes limits.pages m (enter limits.stack limits.pages m low_host room) (code.Set 1 (Convert Wrap (Local 0)) (keeps first_name 0 k)) (λ h. NamesKept (plan p more own) r.ghost world r.store r.end first_name names h) (record { spent = 0; store = r.store; locals = r.word ∷ 0 ∷ 0 ∷ [] })) len
          (names_kept HostWorld (plan p more own) r.ghost world limits.pages m (enter limits.stack limits.pages m low_host room) r.store r.end r.heap first_name r.word v names r.rep tuple_is
          (λ y lt. ap r.ghost.own (let e : first_name + y ≡ base p more own + (hidden p more own + y) = omega arith in e) ∙ (r.names (hidden p more own + y) (omega arith) (let c = padded_count in omega (arith, c, lt, len))).1) 0 0)

      gone : o ≡ After (Gave r.rest r.store (Some r.word))
      gone = is ∙ ap After r.same

      out_is : out_of (stand (suc turns)) ≡ prints
      out_is = ap out_of stand_is

      weight_is : weight_of (stand (suc turns)) ≡ weight
      weight_is = ap weight_of stand_is

      told_is : r.store.world.prints ≡ prints
      told_is = ap (λ (w : HostWorld). w.prints) r.shown ∙ told_prints entered.world prints

      q : Progress Fields
      q = progress_of messages p paid_first (Over weight deep prints world (Replies v))

      ends : (k : ℕ) → After (Gave r.rest r.store (Some r.word)) ≡ Ends (state k goes.to) → Final (ended o)
      ends k e =
          subst (λ o. Final (ended o)) (sym (gone ∙ e)) (
            Completed prints (paid_first + weight + 0) (record { cells = world.store; groups = world.groups; names = names }),
            (
              suc (suc turns),
              max (max 0 deep) (16 * 0),
              x_is (suc turns) ∙ ap (progress_of messages p paid_first) stand_is
                  ∙ (λ i. record { prints = prints; weight = paid_first + weight + 0; depth = max (max 0 deep) (16 * 0); completion = on_some None (tuple_is i) (λ names. Some (Completes (record { cells = world.store; groups = world.groups; names = names }))) }),
            ),
            (sym (ap (λ (w : HostWorld). w.prints) goes.holds.shown ∙ told_is), λ made. contents made),
          )
        where
          contents : (made : ℕ) → ContentsHold p more own id {K = K} (paid_first + weight + 0) (fresh_state (record { cells = world.store; groups = world.groups; names = names }) made) (contents_left goes.to.store) []
          contents made =
              let h = goes.holds.heap.holds in
              record {
                ghost = goes.holds.ghost;
                count = goes.holds.heap.count;
                top = r.end;
                others = goes.holds.heap.others;
                globals = ap (λ (s : Store HostWorld). s.globals) goes.holds.heap.is;
                holds = record { some = h.some; heap = h.heap; bytes = h.bytes; based = h.based; texts = h.texts; fixed = h.fixed; free = h.free; held = h.held; made = h.made; cell = h.cell; group = h.group };
                table = goes.holds.table ∙ r.table_is;
                counted = len;
                names = λ z le lt. named z le lt;
                groups = r.groups;
                quiet = refl;
                none = refl;
                paid = let b = r.bytes in omega (arith, b);
              }
            where
              named : (z : ℕ) → hidden p more own ≤ z → z < length (outer_names id p.methods ++ names) → ValueAt goes.holds.ghost goes.to.store.memory (base p more own + z) (nth unit (outer_names id p.methods ++ names) z)
              named z le lt =
                  let c = outer_count in
                  let l = length-append (outer_names id p.methods) names in
                  let y : ℕ = z - hidden p more own in
                  let at : z ≡ length (outer_names id p.methods) + y = omega (arith, c, le) in
                  let here : first_name + y ≡ base p more own + z = omega (arith, le) in
                  subst (λ i. ValueAt goes.holds.ghost goes.to.store.memory i (nth unit (outer_names id p.methods ++ names) z)) here
                  (subst (λ u. ValueAt goes.holds.ghost goes.to.store.memory (first_name + y) u) (sym (ap (nth unit (outer_names id p.methods ++ names)) at ∙ nth_behind (outer_names id p.methods) names y))
                  (goes.holds.set y (omega (arith, lt, l, c, le))))

      by : ((k : ℕ) × (After (Gave r.rest r.store (Some r.word)) ≡ Ends (state k goes.to))) ⊎ ((r.rest < 1 + goes.cost) × RunsOut prints_of (After (Gave r.rest r.store (Some r.word))) r.store.world) → Final (ended o)
      by (inl e) = ends e.0 e.1
      by (inr e) =
          lacks_steps o (suc turns) e.1.store entered.world (gone ∙ e.1.is) (e.1.part.more, out_is ∙ sym told_is ∙ e.1.part.is)
          (let a = e.0 in let b = goes.total in let c = goes.holds.spent in let d = r.few in let s = few_stable in omega (arith, a, b, c, d, s, count, weight_is, len, few_names))

  -- The start has trapped.
  trapped : (o : Outcome HostWorld) (turns n : ℕ) (called : Called HostWorld) → o ≡ After called → (weight deep : ℕ) (prints : List Bytes) (world : World) (text : Bytes) → stand (suc turns) ≡ Over weight deep prints world (Traps text)
      → steps.Trapped (plan p more own) (link p more own) (first_table p more own) (sees_at p.groups) padded limits.pages m low_host told fell prints_of operation_steps (words_for deep) (65536 * limits.pages) called (told_all told entered.world prints) text → Final (ended o)
  trapped o turns n called is weight deep prints world text stand_is t =
      subst (λ o. Final (ended o)) (sym (is ∙ ap After t.same)) (
        Trapped prints text,
        (suc (suc turns), x_prints (suc turns) ∙ ap out_of stand_is, ap (λ (q : Progress Fields). q.completion) (x_is (suc turns) ∙ ap (progress_of messages p paid_first) stand_is)),
        (sym (ap (λ (w : HostWorld). w.prints) t.world ∙ told_prints entered.world prints), ap (λ (w : HostWorld). word.Text w.trap_text) (sym t.world)),
      )

  -- What the machine comes to.
  by_stand : (fits : entry_words ≤ limits.stack) (o : Outcome HostWorld) (n : ℕ) (called : Called HostWorld) → limits.steps ≡ stable + 3 + n → o ≡ After called → (s : Stand State Waiting) → stand (suc (suc n)) ≡ s
      → EndsUnset (plan p more own) (link p more own) (first_table p more own) (sees_at p.groups) padded m operation_steps called n limits.pages room (heap_begin p more own) entered.world (suc (suc n)) s → GivesNames own (behind paid_first 0 [] s) → Final (ended o)
  by_stand fits o n called count is (Still weight deep prints world s) e h g =
      cut fits o (suc n) n called count is (subst (λ s. IsCutOff operation_steps n limits.pages room (heap_begin p more own) (weight_of s) (deep_of s) called (shown_by told fell entered.world s)) (sym e) (h (omega arith)))
  by_stand fits o n called count is (Over weight deep prints world (Replies v)) e (inl r) g = replied o (suc n) n called count is weight deep prints world v e r g.0 g.1 g.2
  by_stand fits o n called count is (Over weight deep prints world (Replies v)) e (inr c) g =
      cut fits o (suc n) n called count is (subst (λ s. IsCutOff operation_steps n limits.pages room (heap_begin p more own) (weight_of s) (deep_of s) called (shown_by told fell entered.world s)) (sym e) c)
  by_stand fits o n called count is (Over weight deep prints world (Traps text)) e (inl t) g = trapped o (suc n) n called is weight deep prints world text e t
  by_stand fits o n called count is (Over weight deep prints world (Traps text)) e (inr c) g =
      cut fits o (suc n) n called count is (subst (λ s. IsCutOff operation_steps n limits.pages room (heap_begin p more own) (weight_of s) (deep_of s) called (shown_by told fell entered.world s)) (sym e) c)
  by_stand fits o n called count is (Over weight deep prints world (Rejects error)) e h g = absurd g
  by_stand fits o n called count is (Over weight deep prints world (Waits on waiting)) e h g = absurd g
  by_stand fits o n called count is (Over weight deep prints world machine.Breaks) e h g = absurd g

  abbrev Whole : Outcome HostWorld
  Whole = whole limits.pages m limits.stack room (number_of_start p more own) stable first_name own limits.steps entered

  runs : (fits : entry_words ≤ limits.stack) → Final (ended Whole)
  runs fits = by (called limits.pages m limits.stack room (number_of_start p more own) stable first_name own limits.steps entered)
    where
      by : ((n : ℕ) × (limits.steps ≡ stable + 3 + n) × (Whole ≡ After (called_start n))) ⊎ ((limits.steps < stable + 3) × (Whole ≡ low.Breaks trap.Steps entered)) → Final (ended Whole)
      by (inl q) = by_stand fits Whole q.0 (called_start q.0) q.1 q.2 (stand (suc (suc q.0))) refl (runs_start fits (suc (suc q.0)) q.0) (gives (suc (suc q.0)))
      by (inr q) = lacks_steps Whole 0 entered entered.world q.1 (out_of (stand 0), refl) (let a = q.0 in let b = few_stable in omega (arith, a, b))

  -- ---- the whole

  abbrev entering : Bool → Called HostWorld
  entering t = cond t (Fell trap.Stack entered) (finish entry_type Whole)

  by_room : (t : Bool) → nat_lt limits.stack entry_words ≡ t → Final (low_end (then_go (entering t) (low_run limits m [])))
  by_room true e =
      let lt : limits.stack < entry_words = grind (arith, nat_tests, e) in
      (Exhausted [] word.Stack, (2, refl, ((x 2).prints, refl), subst (λ d. limits.stack ≤ 8 * d + 4096) (sym (x_depth 1)) (let a = words_few in let d = some_deep 0 in omega (arith, lt, a, d))), (refl, refl))
  by_room false e = runs (grind (arith, nat_tests, e))

  entered_is : enter (suc limits.stack) limits.pages m low_host limits.stack f limits.steps entered [] ≡ entering (nat_lt limits.stack entry_words)
  entered_is = λ i. enter_as limits.pages m low_host limits.stack (λ room. enter limits.stack limits.pages m low_host room) (entry_typed i) (entry_defined i) f limits.steps entered []

  exported : low_exported m (codes "canister_init") ≡ Some f
  exported = ap (λ t. cond (same_type t (Some entry_type)) (Some f) None) entry_typed

  loaded : Final (low_loaded_end limits id m kind.Init (codes "canister_init") [] (Loaded (first_instance m)))
  loaded =
      subst Final (sym (ap (λ (e : Option ℕ). low_execution limits m (first_instance m) (entry_of kind.Init e []) (quiet_world limits id [])) exported ∙ ap (λ c. low_end (then_go c (low_run limits m []))) entered_is))
      (by_room (nat_lt limits.stack entry_words) refl)

  above : (t : Bool) → nat_le m.pages limits.pages ≡ t → Final (low_loaded_end limits id m kind.Init (codes "canister_init") [] (cond t (Loaded (first_instance m)) AboveLimit))
  above true e = loaded
  above false e =
      let lt : limits.pages < pages_for (8 * heap_begin p more own) = grind (arith, nat_tests, e) in
      (Exhausted [] word.Heap, (0, refl, ([], refl), few lt), (refl, refl))
    where
      few : limits.pages < pages_for (8 * heap_begin p more own) → 65536 * (times * limits.pages) ≤ first_bytes + 256 * ((x 0).weight + 0 + 1)
      few lt =
          let b : 65536 * limits.pages ≤ 8 * heap_begin p more own = omega (arith, lt) in
          let a = mul-le-mul_left {m = 65536 * limits.pages} {n = 8 * heap_begin p more own} times b in
          let d : times * (65536 * limits.pages) ≡ 65536 * (times * limits.pages) = omega arith in
          omega (arith, a, d, paid)

  pub installed : Final (low_start_end limits id m kind.Init (codes "canister_init") [])
  installed = above_now (nat_le m.pages limits.pages) refl
    where
      above_now : (t : Bool) → nat_le m.pages limits.pages ≡ t → Final (low_loaded_end limits id m kind.Init (codes "canister_init") [] (cond t (Loaded (first_instance m)) AboveLimit))
      above_now t e = above t e

pub installs : (K : Type 0) → Installs K
installs K run_unset messages p more own first times formed emits few_names bytes share byte_share paid entries exports limits within id principal well =
    installed run_unset messages p more own first times formed emits few_names bytes share byte_share paid entries exports limits within id well
