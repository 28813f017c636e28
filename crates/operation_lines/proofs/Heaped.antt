-- Primitives that read or write the heap, make blocks, end the execution or print; and all that are treated.
use Rattle.std.proofs.Common.{◌≡◌, ℕ, zero, suc, ◌+◌, ◌*◌, ◌<◌, ◌≤◌, ◌^◌, List, [], ◌∷◌, ◌++◌, length, Bool, true, false, ◌&&◌, nat_eq, nat_lt, nat_le, Option, Some, None, pos, refl, sym, ◌∙◌, subst, arith, cond}
use Rattle.std.specs.Prelude.{slice_get, slice_set, take, drop}
use Rattle.std.proofs.lemmas.Bool.Decides.{nat_tests}
use Rattle.mo_types.specs.declared.datum.Datum.TheVariants as part
use Rattle.mo_types.specs.declared.node.Node.{Node}
use Rattle.mo_types.specs.declared.node.TypeId.{TypeId}
use Rattle.mo_types.specs.Label.{label_id}
use Rattle.mo_values.specs.declared.operation.Operation.{Operation}
use Rattle.mo_values.specs.declared.operation.Operation.TheVariants as op
use Rattle.mo_values.specs.Costs.{Cost, weighing}
use Rattle.mo_values.specs.Operations as operations
use Rattle.mo_values.specs.Operations.{assertion_failed}
use Rattle.mo_values.specs.Shapes.{Bytes, Present, Tuple, Tag, Shapes, Made, NoShape, AShape, leaf, unit, shapes, listed}
use Rattle.mo_values.specs.Views as views
use Rattle.mo_values.specs.Views.{given}
use Rattle.wasm_tree.specs.Numeric.{flag}
use Rattle.wasm_tree.specs.Exec.{Host, Store}
use Rattle.core_ir.specs.declared.primitive.Primitive.{Primitive}
use Rattle.core_ir.specs.declared.primitive.Primitive.TheVariants as primitive
use Rattle.core_ir.specs.Choices.{on_some}
use Rattle.core_ir.specs.Primitives.{Done, Gives, Prints, Fails, Stuck, answered, held}
use Rattle.core_ir.specs.Values.{Handle, Value, cell}
use Rattle.core_ir.specs.Worlds.{World}
use Rattle.low_ir.specs.declared.op.Operand.{Operand}
use Rattle.low_ir.specs.declared.op.Operand.TheVariants.{Local, Word, Long}
use Rattle.low_ir.specs.Tree.{Code, Module}
use Rattle.low_rules.specs.Rule.{value_of}
use Rattle.heap_layout.specs.Ghosts.{Ghost}
use Rattle.heap_layout.specs.Means.{Rep, Reps}
use Rattle.heap_layout.specs.Heaps.{Plan}
use Rattle.heap_layout.specs.Table.{bytes_for}
use Rattle.memory_routines.specs.Heaps.{heap_end}
use Rattle.emitted_steps.specs.Operations as steps
use Rattle.emitted_steps.specs.Operations.{Clear, HeapHeld, HostShows}
use Rattle.operation_codes.specs.Links.{Links}
use Rattle.operation_codes.specs.Codes as codes
use Rattle.operation_lines.specs.Linked.{Linked}
use Rattle.operation_lines.specs.Laws.{operation_steps}
use Rattle.operation_lines.proofs.Work.{clear_rest, behind_none, unit_runs, loads_runs}
use Rattle.operation_lines.proofs.Values.{by_flag, by_text, by_cell, by_tuple, flag_word}
use Rattle.std.proofs.lemmas.Slice.Eq.{bytes_eq-Decides}
use Rattle.mo_values.specs.Costs.{sizes}
use Rattle.core_ir.specs.Primitives.{written}
use Rattle.heap_layout.specs.Words.{word_at}
use Rattle.heap_layout.specs.Ghosts.{CellOf, Free}
use Rattle.heap_layout.specs.Blocks.{text_words}
use Rattle.heap_layout.specs.Means.{Means}
use Rattle.heap_layout.specs.Laws.{IsRead}
use Rattle.heap_layout.proofs.Cells.{cells_written}
use Rattle.emitted_steps.proofs.Calls.{reps_length}
use Rattle.heap_layout.proofs.Owners.{differ, is_read, words_read}
use Rattle.leaf_blocks.specs.Laws.{IsWritten}
use Rattle.leaf_blocks.proofs.Leaves.{bytes_ready, bytes_there}
use Rattle.operation_codes.specs.Links.{stands_ready}
use Rattle.operation_codes.specs.Treated.{is_treated, is_treated_operation}
use Rattle.operation_lines.specs.Laws.{OperationsKeep}
use Rattle.operation_lines.proofs.Blocks.{IsMade, block_runs, too_large_runs, given_length}
use Rattle.operation_lines.proofs.Cells.{option_made, variant_made, tuple_made, cell_made, address_small, part_found}
use Rattle.operation_lines.proofs.Written.{writes_runs}
use Rattle.operation_lines.proofs.Ends.{TextBlock, fails_runs, traps_runs, passes, falls, prints_runs}
use Rattle.operation_lines.proofs.Gathered.{K, R, Owed, OwedOf, one_of, two_of, kept, arithmetic_kept, negation_kept, wrapping_kept, order_kept, sameness_kept, equal_kept, unequal_kept, not_kept, copy_kept, literal_kept}

clear_more : (free : ℕ) (a : Operand) (xs : List Operand) → Clear free (a ∷ []) → Clear free xs → Clear free (a ∷ xs)
clear_more free (Local x) xs c d = (c.0, d)
clear_more free (Word z) xs c d = d
clear_more free (Long z) xs c d = d

both : (a b : Bool) → (a && b) ≡ true → (a ≡ true) × (b ≡ true)
both true b e = (refl, e)
both false b e = absurd (cc e)

below : (i n : ℕ) → nat_lt i n ≡ true → i < n
below i n e = grind (arith, nat_tests, e)

not_below : (i n : ℕ) → nat_lt i n ≡ false → n ≤ i
not_below i n e = grind (arith, nat_tests, e)

at_most : (i n : ℕ) → nat_le i n ≡ true → i ≤ n
at_most i n e = grind (arith, nat_tests, e)

same : (i n : ℕ) → nat_eq i n ≡ true → i ≡ n
same i n e = grind (arith, nat_tests, e)

module _ {W : Type 0} (head : TypeId → Node TypeId) (plan : Plan) (told fell : W → Bytes → W) (roof : ℕ) (g : Ghost) (world : World) (store : Store W) (top : ℕ) (heap : HeapHeld plan g world store top) (locals : List ℕ) (to free : ℕ) (pages : ℕ) (m : Module) (host : Host W) (deep room : ℕ) (to_fits : to < length locals) (free_fits : 3 + free ≤ length locals)
    (shows : HostShows host told fell) (links : Links) (linked : Linked plan pages roof m links) (deep_some : 4000 ≤ deep) (wide : 4000 ≤ room) where
  abbrev O : ℕ → Done → Code → Type 0
  O n d code = Owed head plan told fell roof g world store top heap locals to free pages m host deep room to_fits free_fits shows links linked deep_some wide n d code

  abbrev Of : Primitive → List Operand → List Value → Type 0
  Of p xs vs = OwedOf head plan told fell roof g world store top heap locals to free pages m host deep room to_fits free_fits shows links linked deep_some wide p xs vs

  abbrev Does : Done → Code → Type 0
  Does d code = R head plan told fell roof g world store top heap locals to free pages m host deep room to_fits free_fits shows links linked deep_some wide d code

  abbrev Rep_of : Operand → Value → Type 0
  Rep_of a v = Rep g store.memory (value_of a locals) v

  keeps : (d : Done) (code : Code) → Does d code → K head plan told fell roof g world store top heap locals to free pages m host deep room to_fits free_fits shows links linked deep_some wide d code
  keeps d code r = kept head plan told fell roof g world store top heap locals to free pages m host deep room to_fits free_fits shows links linked deep_some wide d code r

  none_so : (n : ℕ) (code : Code) → O n Stuck code
  none_so n code ns = absurd (ns refl)

  one : (B : List Operand → List Value → Type 0) → B [] [] → ((a : Operand) (v : Value) → Rep_of a v → B (a ∷ []) (v ∷ [])) → ((a b : Operand) (xs : List Operand) (v w : Value) (vs : List Value) → B (a ∷ b ∷ xs) (v ∷ w ∷ vs)) → (xs : List Operand) (vs : List Value) → Reps g store.memory (steps.given xs locals) vs → B xs vs
  one = one_of head plan told fell roof g world store top heap locals to free pages m host deep room to_fits free_fits shows links linked deep_some wide

  two : (B : List Operand → List Value → Type 0) → B [] [] → ((a : Operand) (v : Value) → B (a ∷ []) (v ∷ [])) → ((a b : Operand) (v w : Value) → Rep_of a v → Rep_of b w → B (a ∷ b ∷ []) (v ∷ w ∷ []))
      → ((a b c : Operand) (xs : List Operand) (v w u : Value) (vs : List Value) → B (a ∷ b ∷ c ∷ xs) (v ∷ w ∷ u ∷ vs)) → (xs : List Operand) (vs : List Value) → Reps g store.memory (steps.given xs locals) vs → B xs vs
  two = two_of head plan told fell roof g world store top heap locals to free pages m host deep room to_fits free_fits shows links linked deep_some wide

  -- ---- blocks

  abbrev MadeSo : List ℕ → Value → List Value → Type 0
  MadeSo ws v after = IsMade plan told fell roof g world store top heap locals to free pages m host (suc (suc deep)) room to_fits free_fits linked.low_roof linked.few_pages links linked.allocates.0 linked.allocates.1 (omega arith) (omega (arith, wide)) ws v after

  made_block : (xs : List Operand) → Clear free xs → (cost : Cost) (v : Value) (after : List Value) → length xs < 2 ^ 28 → (8 * top + 8 * length xs ≤ heap_end → MadeSo (steps.given xs locals) v after) → 8 * length xs ≤ bytes_for cost.weight → 60 + 3 * length xs ≤ operation_steps * cost.weight
      → K head plan told fell roof g world store top heap locals to free pages m host deep room to_fits free_fits shows links linked deep_some wide (Gives cost v after) (codes.new_block links to free xs)
  made_block xs clear cost v after small made bytes few =
      keeps (Gives cost v after) (codes.new_block links to free xs)
      (block_runs plan told fell roof g world store top heap locals to free pages m host (suc (suc deep)) room to_fits free_fits linked.low_roof linked.few_pages links linked.allocates.0 linked.allocates.1 (omega arith) (omega (arith, wide)) xs clear cost v after bytes few small made)

  option_kept : (xs : List Operand) (vs : List Value) → Reps g store.memory (steps.given xs locals) vs → Of (primitive.Operate op.MakeOption) xs vs
  option_kept =
      one (Of (primitive.Operate op.MakeOption)) (λ c ns. absurd (ns refl))
      (λ a v r clear there light.
      made_block (a ∷ []) clear (weighing 3) (Made Present (AShape v NoShape)) world.store (omega arith)
      (λ there. let b = option_made plan g world store.memory heap.count top heap.holds (value_of a locals) v r (omega (arith, there)) in record { ghost = _; count = _; holds = b.holds; later = b.later; rep = b.rep }) (omega arith) (omega arith))
      (λ a b xs v w vs clear ns. absurd (ns refl))

  variant_kept : (l : Bytes) (xs : List Operand) (vs : List Value) → Reps g store.memory (steps.given xs locals) vs → Of (primitive.Operate (op.MakeTag l)) xs vs
  variant_kept l =
      one (Of (primitive.Operate (op.MakeTag l))) (λ c ns. absurd (ns refl))
      (λ a v r clear there light.
      made_block (Long (pos (label_id l)) ∷ a ∷ []) clear (weighing 3) (Made (Tag l) (AShape v NoShape)) world.store (omega arith)
      (λ there. let b = variant_made plan g world store.memory heap.count top heap.holds l (value_of a locals) v r (omega (arith, there)) in record { ghost = _; count = _; holds = b.holds; later = b.later; rep = b.rep }) (omega arith) (omega arith))
      (λ a b xs v w vs clear ns. absurd (ns refl))

  module _ (a : Operand) (xs : List Operand) (v : Value) (vs : List Value) (r : Reps g store.memory (steps.given (a ∷ xs) locals) (v ∷ vs)) (clear : Clear free (a ∷ xs)) where
    abbrev all : List Operand
    all = Long (pos (1 + length xs)) ∷ a ∷ xs

    abbrev tuple_cost : Cost
    tuple_cost = weighing (2 + length (v ∷ vs))

    len : length (steps.given (a ∷ xs) locals) ≡ 1 + length xs
    len = let e = given_length xs locals in omega (arith, e)

    many : length (v ∷ vs) ≡ 1 + length xs
    many = let e = reps_length g store.memory (steps.given (a ∷ xs) locals) (v ∷ vs) r in omega (arith, e, len)

    made_tuple : 8 * top + 8 * length all ≤ heap_end → MadeSo (steps.given all locals) (Made Tuple (shapes (v ∷ vs))) world.store
    made_tuple there =
        let b = tuple_made plan g world store.memory heap.count top heap.holds v vs (steps.given (a ∷ xs) locals) r (omega (arith, there, len)) in
        subst (λ n. MadeSo (n ∷ steps.given (a ∷ xs) locals) (Made Tuple (shapes (v ∷ vs))) world.store) len (record { ghost = _; count = _; holds = b.holds; later = b.later; rep = b.rep })

    tuple_by : (t : Bool) → nat_lt (length all) (2 ^ 28) ≡ t → K head plan told fell roof g world store top heap locals to free pages m host deep room to_fits free_fits shows links linked deep_some wide (Gives tuple_cost (Made Tuple (shapes (v ∷ vs))) world.store) (cond t (codes.new_block links to free all) codes.too_large)
    tuple_by true e = made_block all clear tuple_cost (Made Tuple (shapes (v ∷ vs))) world.store (below (length all) (2 ^ 28) e) made_tuple (omega (arith, many)) (omega (arith, many))
    tuple_by false e =
        keeps (Gives tuple_cost (Made Tuple (shapes (v ∷ vs))) world.store) codes.too_large
        (too_large_runs plan told fell roof g world store top heap locals to free pages m host (suc (suc deep)) room to_fits free_fits linked.low_roof linked.few_pages links linked.allocates.0 linked.allocates.1 (omega arith) (omega (arith, wide)) all clear tuple_cost (Made Tuple (shapes (v ∷ vs))) world.store (omega (arith, many)) (omega (arith, many))
        (let le = not_below (length all) (2 ^ 28) e in omega (arith, le, many)))

  tuple_kept : (xs : List Operand) (vs : List Value) → Reps g store.memory (steps.given xs locals) vs → Of (primitive.Operate op.MakeTuple) xs vs
  tuple_kept [] [] r = λ clear there light.
      keeps (Gives (weighing 2) unit world.store) (codes.gives_unit to) (unit_runs plan told fell roof g world store top heap locals to free pages m host (suc (suc deep)) room to_fits free_fits (weighing 2) (omega arith) 0 locals (behind_none free locals) (omega arith))
  tuple_kept [] (v ∷ vs) r = absurd r
  tuple_kept (a ∷ xs) [] r = absurd r
  tuple_kept (a ∷ xs) (v ∷ vs) r = λ clear there light. tuple_by a xs v vs r clear (nat_lt (length (Long (pos (1 + length xs)) ∷ a ∷ xs)) (2 ^ 28)) refl

  -- ---- variables

  new_kept : (xs : List Operand) (vs : List Value) → Reps g store.memory (steps.given xs locals) vs → Of primitive.New xs vs
  new_kept =
      one (Of primitive.New) (λ c ns. absurd (ns refl))
      (λ a v r clear there light.
      made_block (a ∷ Long (pos 0) ∷ []) (clear_more free a (Long (pos 0) ∷ []) clear tt) (weighing 1) (cell (length world.store)) (world.store ++ v ∷ []) (omega arith)
      (λ there. let b = cell_made plan g world store.memory heap.count top heap.holds (value_of a locals) v r (omega (arith, there)) in record { ghost = _; count = _; holds = b.holds; later = b.later; rep = b.rep }) (omega arith) (omega arith))
      (λ a b xs v w vs clear ns. absurd (ns refl))

  -- a variable's word is read, and stands for what it holds
  cell_word : (n : ℕ) (v : Value) → slice_get world.store n ≡ Some v → (IsRead store.memory (g.cells n)) × (g.cells n < top) × Rep g store.memory (word_at store.memory (g.cells n)) v
  cell_word n v e =
      let c = heap.holds.cell n v e in
      let r = words_read plan g world store.memory heap.count top heap.holds (g.cells n) (λ free. differ Free (CellOf n) (λ k. omega (arith, k)) (sym free ∙ c.owner)) in
      (r.1, r.0, c.rep)

  cell_means : (x n : ℕ) (v : Value) → v ≡ cell n → Rep g store.memory x v → (x ≡ 8 * g.cells n) × (n < g.held)
  cell_means x n v e r = let m : Means g store.memory x (cell n) = subst (λ v. Means g store.memory x v) e r.means in m

  some_value : (vs : List Value) (n : ℕ) → n < length vs → (v : Value) × (slice_get vs n ≡ Some v)
  some_value [] n lt = absurd (omega arith)
  some_value (v ∷ vs) zero lt = (v, refl)
  some_value (v ∷ vs) (suc n) lt = some_value vs n (omega (arith, lt))

  read_kept : (xs : List Operand) (vs : List Value) → Reps g store.memory (steps.given xs locals) vs → Of primitive.Read xs vs
  read_kept =
      one (Of primitive.Read) (λ c ns. absurd (ns refl))
      (λ a v r clear.
      by_cell (λ o. O 1 (on_some Stuck (held world.store o) (λ u. Gives (weighing 1) u world.store)) (codes.loads to free 0 a)) (none_so 1 _) v
      (λ n e. by_held n (slice_get world.store n) refl a v e r))
      (λ a b xs v w vs clear ns. absurd (ns refl))
    where
      by_held : (n : ℕ) (o : Option Value) → slice_get world.store n ≡ o → (a : Operand) (v : Value) → v ≡ cell n → Rep_of a v → O 1 (on_some Stuck o (λ u. Gives (weighing 1) u world.store)) (codes.loads to free 0 a)
      by_held n None is a v e r = none_so 1 _
      by_held n (Some u) is a v e r = λ there light.
          let c = cell_word n u is in
          let at : g.cells n ≡ g.cells n + 0 = omega arith in
          let lt = c.1 in
          keeps (Gives (weighing 1) u world.store) (codes.loads to free 0 a)
          (loads_runs plan told fell roof g world store top heap locals to free pages m host (suc (suc deep)) room to_fits free_fits (weighing 1) (omega arith) 0 (g.cells n) a u (cell_means (value_of a locals) n v e r).0
          (address_small plan g world store.memory heap.count top heap.holds (g.cells n) 0 (omega (arith, lt))) (subst (IsRead store.memory) at c.0) (subst (λ i. Rep g store.memory (word_at store.memory i) u) at c.2))

  write_kept : (xs : List Operand) (vs : List Value) → Reps g store.memory (steps.given xs locals) vs → Of primitive.Write xs vs
  write_kept =
      two (Of primitive.Write) (λ c ns. absurd (ns refl)) (λ a v c ns. absurd (ns refl))
      (λ a b v w r s clear.
      by_cell (λ o. O 2 (written head world.store w o) (codes.writes to free a b)) (none_so 2 _) v
      (λ n e there light.
      let k = cell_means (value_of a locals) n v e r in
      let held_is = heap.holds.held in
      let here : n < length world.store = let lt = k.1 in omega (arith, lt, held_is) in
      let u = some_value world.store n here in
      let c = cell_word n u.0 u.1 in
      keeps (Gives (weighing 1) unit (slice_set world.store n w)) (codes.writes to free a b)
      (writes_runs plan told fell roof g world store top heap locals to free pages m host (suc (suc deep)) room to_fits free_fits (weighing 1) (omega arith) n a b w (clear_rest free a (b ∷ []) clear) k.0 c.0
      (cells_written plan g world store.memory heap.count top heap.holds n (value_of b locals) w here s))))
      (λ a b c xs v w u vs clear ns. absurd (ns refl))

  project_kept : (i : ℕ) (xs : List Operand) (vs : List Value) → Reps g store.memory (steps.given xs locals) vs → Of (primitive.Operate (op.Project i)) xs vs
  project_kept i =
      one (Of (primitive.Operate (op.Project i))) (λ c ns. absurd (ns refl))
      (λ a v r clear.
      by_tuple (λ o. O 1 (answered head world.store (weighing 1) (given o (λ us. given (slice_get us i) (λ u. views.Gives u)))) (codes.loads to free (1 + i) a)) (none_so 1 _) v
      (λ inside e. by_part inside (slice_get (listed inside) i) refl a v e r))
      (λ a b xs v w vs clear ns. absurd (ns refl))
    where
      by_part : (inside : Shapes Handle) (o : Option Value) → slice_get (listed inside) i ≡ o → (a : Operand) (v : Value) → v ≡ Made Tuple inside → Rep_of a v → O 1 (answered head world.store (weighing 1) (given o (λ u. views.Gives u))) (codes.loads to free (1 + i) a)
      by_part inside None is a v e r = none_so 1 _
      by_part inside (Some u) is a v e r = λ there light.
          let p = part_found plan g world store.memory heap.count top heap.holds (value_of a locals) i inside u (subst (λ v. Means g store.memory (value_of a locals) v) e r.means) is in
          keeps (Gives (weighing 1) u world.store) (codes.loads to free (1 + i) a)
          (loads_runs plan told fell roof g world store top heap locals to free pages m host (suc (suc deep)) room to_fits free_fits (weighing 1) (omega arith) (1 + i) p.b a u p.is
          (address_small plan g world store.memory heap.count top heap.holds p.b (1 + i) p.found.below) p.found.read p.found.rep)

  -- ---- texts

  memory_short : length store.memory < 2 ^ 32
  memory_short = let w = heap.holds.heap.whole in let f = heap.holds.heap.few in omega (arith, w, f)

  text_block : (x : ℕ) (t : Bytes) → Rep g store.memory x (leaf (part.Text t)) → (b : ℕ) × (x ≡ 8 * b) × TextBlock store.memory b t
  text_block x t r =
      let a = bytes_there plan g world store.memory heap.count top heap.holds x (part.Text t) t refl r in
      let fits = a.below in
      (a.word, a.is, record { read = is_read store.memory heap.count top a.word heap.holds.heap (omega (arith, fits)); written = a.written; short = memory_short })

  ready_block : (i : ℕ) (t : Bytes) → stands_ready plan i t ≡ true → TextBlock store.memory i t
  ready_block i t e =
      let p = both (nat_lt 0 i) _ e in
      let q = both (nat_le (i + text_words t) plan.base) _ p.1 in
      let s = both (nat_eq (word_at plan.texts i) (length t)) _ q.1 in
      let u = both (nat_le (8 * i + 8 + length t) (length plan.texts)) _ s.1 in
      let is : IsWritten plan.texts i t = record { size = same (word_at plan.texts i) (length t) s.0; stands = record { inside = at_most (8 * i + 8 + length t) (length plan.texts) u.0; bytes = (bytes_eq-Decides (take (length t) (drop (8 * i + 8) plan.texts)) t).0 u.1 } } in
      let r = bytes_ready plan g world store.memory heap.count top heap.holds i t (below 0 i p.0) (at_most (i + text_words t) plan.base q.0) is (part.Text t) refl in
      let b = text_block (8 * i) t r in
      let at : b.0 ≡ i = let k = b.1 in omega (arith, k) in
      subst (λ i. TextBlock store.memory i t) at b.2

  fail_kept : (t : Bytes) → stands_ready plan (links.bytes_at t) t ≡ true → (xs : List Operand) (vs : List Value) → Reps g store.memory (steps.given xs locals) vs → Of (primitive.Operate (op.Fail t)) xs vs
  fail_kept t is [] [] r = λ clear there light.
      keeps (Fails (weighing (1 + length t)) t) (codes.fails links t)
      (fails_runs plan told fell roof g world store top heap locals to free pages m host deep room to_fits free_fits shows links linked.fails.0 linked.fails.1 linked.fails.2 (omega (arith, wide)) (weighing (1 + length t)) (omega arith) (links.bytes_at t) t (ready_block (links.bytes_at t) t is))
  fail_kept t is [] (v ∷ vs) r = absurd r
  fail_kept t is (a ∷ xs) [] r = absurd r
  fail_kept t is (a ∷ xs) (v ∷ vs) r = λ clear ns. absurd (ns refl)

  trap_kept : (xs : List Operand) (vs : List Value) → Reps g store.memory (steps.given xs locals) vs → Of (primitive.Operate op.Trap) xs vs
  trap_kept =
      one (Of (primitive.Operate op.Trap)) (λ c ns. absurd (ns refl))
      (λ a v r clear.
      let cost : Cost = weighing (1 + sizes (v ∷ [])) in
      by_text (λ o. O 1 (answered head world.store cost (given o (λ t. views.Traps t))) (codes.traps_with links free a)) (none_so 1 _) v
      (λ t e there light.
      let b = text_block (value_of a locals) t (subst (λ v. Rep g store.memory (value_of a locals) v) e r) in
      keeps (Fails cost t) (codes.traps_with links free a)
      (traps_runs plan told fell roof g world store top heap locals to free pages m host deep room to_fits free_fits shows links linked.fails.0 linked.fails.1 linked.fails.2 (omega (arith, wide)) cost (omega arith) b.0 t a b.2 b.1)))
      (λ a b xs v w vs clear ns. absurd (ns refl))

  assert_kept : stands_ready plan (links.bytes_at assertion_failed) assertion_failed ≡ true → (xs : List Operand) (vs : List Value) → Reps g store.memory (steps.given xs locals) vs → Of (primitive.Operate op.Assert) xs vs
  assert_kept is =
      one (Of (primitive.Operate op.Assert)) (λ c ns. absurd (ns refl))
      (λ a v r clear.
      by_flag (λ x. O 1 (answered head world.store (weighing 1) x) (codes.asserts links to free a)) (none_so 1 _) v operations.asserted (λ b e. by_truth b a (flag_word g store.memory (value_of a locals) v b r e)))
      (λ a b xs v w vs clear ns. absurd (ns refl))
    where
      by_truth : (b : Bool) (a : Operand) → value_of a locals ≡ flag b → O 1 (answered head world.store (weighing 1) (operations.asserted b)) (codes.asserts links to free a)
      by_truth true a e there light =
          keeps (Gives (weighing 1) unit world.store) (codes.asserts links to free a)
          (passes plan told fell roof g world store top heap locals to free pages m host deep room to_fits free_fits shows links linked.fails.0 linked.fails.1 linked.fails.2 (omega (arith, wide)) (weighing 1) (omega arith) a assertion_failed (ready_block (links.bytes_at assertion_failed) assertion_failed is) (codes.fails links assertion_failed) e)
      by_truth false a e there light =
          keeps (Fails (weighing 1) assertion_failed) (codes.asserts links to free a)
          (falls plan told fell roof g world store top heap locals to free pages m host deep room to_fits free_fits shows links linked.fails.0 linked.fails.1 linked.fails.2 (omega (arith, wide)) (weighing 1) (omega arith) a assertion_failed (ready_block (links.bytes_at assertion_failed) assertion_failed is) e)

  print_kept : (xs : List Operand) (vs : List Value) → Reps g store.memory (steps.given xs locals) vs → Of primitive.Print xs vs
  print_kept =
      one (Of primitive.Print) (λ c ns. absurd (ns refl))
      (λ a v r clear.
      by_text (λ o. O 1 (on_some Stuck o (λ text. Prints (weighing (1 + 2 * length text)) text)) (codes.prints to free a)) (none_so 1 _) v
      (λ t e there light.
      let b = text_block (value_of a locals) t (subst (λ v. Rep g store.memory (value_of a locals) v) e r) in
      keeps (Prints (weighing (1 + 2 * length t)) t) (codes.prints to free a)
      (prints_runs plan told fell roof g world store top heap locals to free pages m host deep room to_fits free_fits shows links linked.fails.0 linked.fails.1 linked.fails.2 (omega (arith, wide)) (weighing (1 + 2 * length t)) (omega arith) b.0 t a b.2 b.1)))
      (λ a b xs v w vs clear ns. absurd (ns refl))

  -- ---- all that are treated

  pub operation_kept : (o : Operation) → is_treated_operation head plan links o ≡ true → (xs : List Operand) (vs : List Value) → Reps g store.memory (steps.given xs locals) vs → Of (primitive.Operate o) xs vs
  operation_kept (op.Arithmetic o k) is = arithmetic_kept head plan told fell roof g world store top heap locals to free pages m host deep room to_fits free_fits shows links linked deep_some wide o k
  operation_kept (op.Wrap o k) is = wrapping_kept head plan told fell roof g world store top heap locals to free pages m host deep room to_fits free_fits shows links linked deep_some wide o k
  operation_kept (op.Negate k) is = negation_kept head plan told fell roof g world store top heap locals to free pages m host deep room to_fits free_fits shows links linked deep_some wide k
  operation_kept (op.Compare o s) is = order_kept head plan told fell roof g world store top heap locals to free pages m host deep room to_fits free_fits shows links linked deep_some wide o s is
  operation_kept (op.Same s) is = sameness_kept head plan told fell roof g world store top heap locals to free pages m host deep room to_fits free_fits shows links linked deep_some wide s is
  operation_kept (op.Equal t) is = equal_kept head plan told fell roof g world store top heap locals to free pages m host deep room to_fits free_fits shows links linked deep_some wide t is
  operation_kept (op.Unequal t) is = unequal_kept head plan told fell roof g world store top heap locals to free pages m host deep room to_fits free_fits shows links linked deep_some wide t is
  operation_kept op.Not is = not_kept head plan told fell roof g world store top heap locals to free pages m host deep room to_fits free_fits shows links linked deep_some wide
  operation_kept op.Assert is = assert_kept is
  operation_kept op.MakeTuple is = tuple_kept
  operation_kept op.MakeOption is = option_kept
  operation_kept (op.MakeTag l) is = variant_kept l
  operation_kept (op.Project i) is = project_kept i
  operation_kept op.Trap is = trap_kept
  operation_kept (op.Fail t) is = fail_kept t is
  operation_kept op.Concat is = absurd (cc is)
  operation_kept op.TextSize is = absurd (cc is)
  operation_kept (op.ToText k) is = absurd (cc is)
  operation_kept op.MakeArray is = absurd (cc is)
  operation_kept (op.MakeObject ls) is = absurd (cc is)
  operation_kept (op.Field l) is = absurd (cc is)
  operation_kept op.Element is = absurd (cc is)
  operation_kept op.ArraySize is = absurd (cc is)
  operation_kept (op.Method l) is = absurd (cc is)
  operation_kept op.PrincipalOf is = absurd (cc is)
  operation_kept op.RejectError is = absurd (cc is)
  operation_kept op.Message is = absurd (cc is)
  operation_kept op.Code is = absurd (cc is)

  pub primitive_kept : (p : Primitive) → is_treated head plan links p ≡ true → (xs : List Operand) (vs : List Value) → Reps g store.memory (steps.given xs locals) vs → Of p xs vs
  primitive_kept (primitive.Operate o) is = operation_kept o is
  primitive_kept primitive.Copy is = copy_kept head plan told fell roof g world store top heap locals to free pages m host deep room to_fits free_fits shows links linked deep_some wide
  primitive_kept (primitive.Is c) is = literal_kept head plan told fell roof g world store top heap locals to free pages m host deep room to_fits free_fits shows links linked deep_some wide c is
  primitive_kept primitive.New is = new_kept
  primitive_kept primitive.Read is = read_kept
  primitive_kept primitive.Write is = write_kept
  primitive_kept primitive.Print is = print_kept
  primitive_kept primitive.WriteElement is = absurd (cc is)
  primitive_kept primitive.ArrayInit is = absurd (cc is)
  primitive_kept primitive.ArrayFreeze is = absurd (cc is)
  primitive_kept primitive.ArrayThaw is = absurd (cc is)
  primitive_kept primitive.IsMutable is = absurd (cc is)
  primitive_kept primitive.NextChar is = absurd (cc is)

pub operations_kept : (W : Type 0) → OperationsKeep W
operations_kept W head plan pages roof m host told fell shows links linked zero room p to free xs is g world store top heap locals vs to_fits free_fits clear reps there light deep_enough = absurd (omega (arith, deep_enough))
operations_kept W head plan pages roof m host told fell shows links linked (suc zero) room p to free xs is g world store top heap locals vs to_fits free_fits clear reps there light deep_enough = absurd (omega (arith, deep_enough))
operations_kept W head plan pages roof m host told fell shows links linked (suc (suc deep)) room p to free xs is g world store top heap locals vs to_fits free_fits clear reps there light deep_enough =
    λ room_enough. primitive_kept head plan told fell roof g world store top heap locals to free pages m host deep room to_fits free_fits shows links linked (omega (arith, deep_enough)) (omega (arith, room_enough)) p is xs vs reps clear there light
