-- Operands come to their places.
use Rattle.std.proofs.Common.{inl, inr, ◌≡◌, ℕ, suc, ◌+◌, ◌*◌, ◌<◌, ◌≤◌, ◌^◌, List, [], ◌∷◌, length, true, false, Ok, refl, sym, ap, ◌∙◌, subst, arith, Bool, cond, ℤ, pos, negsuc, ◌-ℤ◌, ◌-◌}
use Rattle.std.specs.Prelude.{slice_index, slice_set, int_le}
use Rattle.std.proofs.lemmas.Int.{ints}
use Rattle.std.proofs.lemmas.List.{length-set}
use Rattle.std.proofs.Math.Nat.{mod-eq_of_lt}
use Rattle.mo_types.specs.declared.datum.Datum.{Datum}
use Rattle.mo_types.specs.declared.datum.Datum.TheVariants as part
use Rattle.mo_values.specs.Shapes.{Bytes, unit, leaf}
use Rattle.wasm_tree.specs.declared.types.ValueType.TheVariants.{I32, I64}
use Rattle.wasm_tree.specs.declared.op.LoadKind.TheVariants as load
use Rattle.wasm_tree.specs.Numeric.{low}
use Rattle.wasm_tree.specs.Exec.{Store, bits64}
use Rattle.core_ir.specs.declared.constant.Constant.{Constant}
use Rattle.core_ir.specs.declared.constant.Constant.TheVariants as constant
use Rattle.core_ir.specs.declared.code.Operand.{Operand}
use Rattle.core_ir.specs.declared.code.Operand.TheVariants.{Slot, Captured, Member, Global}
use Rattle.core_ir.specs.declared.code.Operand.TheVariants as operand
use Rattle.core_ir.specs.Choices.{nth}
use Rattle.core_ir.specs.Values.{Value, constant_value}
use Rattle.core_ir.specs.Worlds.{World}
use Rattle.core_ir.specs.CodeMachine.{Frame, value, values}
use Rattle.low_ir.specs.declared.op.Operand as low
use Rattle.low_ir.specs.declared.op.Operand.TheVariants.{Local, Word}
use Rattle.low_ir.specs.declared.op.Operation.TheVariants.{Load}
use Rattle.low_ir.specs.Tree.{Code, Module, Set}
use Rattle.low_rules.specs.Rule.{At, CodeEnd, Contracts, value_of, loads, Before}
use Rattle.low_rules.proofs.Steps.{on_ok, low_is}
use Rattle.heap_layout.specs.Words.{word_at}
use Rattle.heap_layout.specs.Ghosts.{Ghost, Free, Fixed}
use Rattle.heap_layout.specs.Means.{ValueAt, Rep, Reps}
use Rattle.heap_layout.specs.Heaps.{Plan}
use Rattle.heap_layout.specs.Laws.{IsRead}
use Rattle.heap_layout.proofs.Owners.{differ, words_read}
use Rattle.leaf_blocks.specs.Laws.{IsOfBytes}
use Rattle.leaf_blocks.proofs.Leaves.{bytes_ready}
use Rattle.flat_emission.specs.Emission.{Linkage, Here, signed_long, constant_word, first_word, place_local, place, places, fetch, fetches}
use Rattle.emitted_steps.specs.Operations.{Clear, given, HeapHeld}
use Rattle.emitted_steps.specs.States.{NamesAt, FrameHeld, StandsReady, PlainLeaf, Plain, FitsOperand, FitOperands}
use Rattle.emitted_steps.proofs.Frames.{local_here, local_other, frame_behind}

pub wide_is : (n : ℕ) → n < 2 ^ 64 → low I64 n ≡ n
wide_is n h = mod-eq_of_lt h

-- The literal of a number has its word.
long_word : (n : ℤ) → bits64 n < 2 ^ 64 → bits64 (signed_long n) ≡ bits64 n
long_word (negsuc n) h = refl
long_word (pos n) h = by (int_le (pos n) (pos (2 ^ 63 - 1))) refl
  where
    turned : (z : ℤ) → z ≡ pos n -ℤ pos (2 ^ 64) → bits64 z ≡ n
    turned (pos k) is = absurd (omega (arith, ints, is, h))
    turned (negsuc k) is = omega (arith, ints, is)

    by : (t : Bool) → int_le (pos n) (pos (2 ^ 63 - 1)) ≡ t → bits64 (cond t (pos n) (pos n -ℤ pos (2 ^ 64))) ≡ n
    by true e = refl
    by false e = turned (pos n -ℤ pos (2 ^ 64)) refl

-- Places of operands do not see the words between.
module _ (plan : Plan) (link : Linkage) (globals : List Value) (sees : ℕ → ℕ) (here : Here) (seen : ℕ) where
  pub place_between : (i : ℕ) (x : Operand) (locals : List ℕ) (y v : ℕ) → suc here.slots ≤ y → y < suc (suc (suc (suc here.slots))) → FitsOperand plan link globals sees here seen x → value_of (place plan link here i x) (slice_set locals y v) ≡ value_of (place plan link here i x) locals
  place_between i (Slot x) locals y v a b fits = local_other locals y (suc x) v (λ e. let lt : x < here.slots = fits in omega (arith, lt, a, e))
  place_between i (Captured x) locals y v a b fits = local_other locals y (place_local here i) v (λ e. omega (arith, b, e))
  place_between i (Member x) locals y v a b fits = local_other locals y (place_local here i) v (λ e. omega (arith, b, e))
  place_between i (Global x) locals y v a b fits = local_other locals y (place_local here i) v (λ e. omega (arith, b, e))
  place_between i (operand.Constant c) locals y v a b fits = refl

  pub places_between : (i : ℕ) (xs : List Operand) (locals : List ℕ) (y v : ℕ) → suc here.slots ≤ y → y < suc (suc (suc (suc here.slots))) → FitOperands plan link globals sees here seen xs → given (places plan link here i xs) (slice_set locals y v) ≡ given (places plan link here i xs) locals
  places_between i [] locals y v a b fits = refl
  places_between i (x ∷ xs) locals y v a b fits = λ k. place_between i x locals y v a b fits.0 k ∷ places_between (suc i) xs locals y v a b fits.1 k

  pub places_clear : (i : ℕ) (xs : List Operand) → FitOperands plan link globals sees here seen xs → Clear (first_word here) (places plan link here i xs)
  places_clear i [] fits = tt
  places_clear i (Slot x ∷ xs) fits = (inl (let lt : x < here.slots = fits.0 in omega (arith, lt)), places_clear (suc i) xs fits.1)
  places_clear i (Captured x ∷ xs) fits = (inr (omega arith), places_clear (suc i) xs fits.1)
  places_clear i (Member x ∷ xs) fits = (inr (omega arith), places_clear (suc i) xs fits.1)
  places_clear i (Global x ∷ xs) fits = (inr (omega arith), places_clear (suc i) xs fits.1)
  places_clear i (operand.Constant c ∷ xs) fits = places_clear (suc i) xs fits.1

  pub places_length : (i : ℕ) (xs : List Operand) → length (places plan link here i xs) ≡ length xs
  places_length i [] = refl
  places_length i (x ∷ xs) = ap suc (places_length (suc i) xs)

pub values_length : (globals : List Value) (f : Frame) (xs : List Operand) → length (values globals f xs) ≡ length xs
values_length globals f [] = refl
values_length globals f (x ∷ xs) = ap suc (values_length globals f xs)

-- No calls.
abbrev pub no_calls : {W : Type 0} → Contracts W
no_calls f store args q = ⊥

-- A word is read at its address, which is small.
pub record Readable (memory : List ℕ) (i : ℕ) : Type 0 where
  pub small : 8 * i < 2 ^ 32
  pub load : loads memory load.I64 (8 * i) ≡ Ok (word_at memory i)

module _ {W : Type 0} (plan : Plan) (g : Ghost) (world : World) (store : Store W) (top : ℕ) (heap : HeapHeld plan g world store top) where
  -- a fixed word is read, and its address is small
  pub fixed_read : (i : ℕ) → g.own i ≡ Fixed → (i < top) × IsRead store.memory i
  fixed_read i e = words_read plan g world store.memory heap.count top heap.holds i (λ free. differ Free Fixed (λ k. omega (arith, k)) (sym free ∙ e))

  pub address_low : (i : ℕ) → i < top → 8 * i < 2 ^ 32
  address_low i lt = let a = heap.holds.heap.inside in let b = heap.holds.heap.whole in let d = heap.holds.heap.few in omega (arith, a, b, d, lt)

  pub fixed_words : (i : ℕ) → g.own i ≡ Fixed → Readable store.memory i
  fixed_words i e = let r = fixed_read i e in record { small = address_low i r.0; load = r.1.load }

  -- ---- literals

  ready_rep : (bytes_at : Bytes → ℕ) (t : Bytes) → StandsReady plan bytes_at t → (p : Datum) → IsOfBytes p t → Rep g store.memory (8 * bytes_at t) (leaf p)
  ready_rep bytes_at t r p is = bytes_ready plan g world store.memory heap.count top heap.holds (bytes_at t) t r.some r.inside r.written p is

  leaf_rep : (bytes_at : Bytes → ℕ) (p : Datum) → PlainLeaf plan bytes_at p → Rep g store.memory (bits64 (constant_word bytes_at (constant.Leaf p))) (leaf p)
  leaf_rep bytes_at part.Null h = record { small = omega arith; means = refl }
  leaf_rep bytes_at (part.Flag true) h = record { small = omega arith; means = refl }
  leaf_rep bytes_at (part.Flag false) h = record { small = omega arith; means = refl }
  leaf_rep bytes_at (part.Number n) h = record { small = subst (λ w. w < 2 ^ 64) (sym (long_word n h)) h; means = long_word n h }
  leaf_rep bytes_at (part.Char c) h = record { small = omega (arith, h); means = refl }
  leaf_rep bytes_at (part.Text t) h = ready_rep bytes_at t h (part.Text t) refl
  leaf_rep bytes_at (part.Blob t) h = ready_rep bytes_at t h (part.Blob t) refl
  leaf_rep bytes_at (part.Principal t) h = ready_rep bytes_at t h (part.Principal t) refl
  leaf_rep bytes_at (part.Actor t) h = ready_rep bytes_at t h (part.Actor t) refl
  leaf_rep bytes_at (part.Method p t) h = absurd h
  leaf_rep bytes_at part.Present h = absurd h
  leaf_rep bytes_at (part.Many n) h = absurd h
  leaf_rep bytes_at (part.Record n) h = absurd h
  leaf_rep bytes_at (part.Tag n) h = absurd h

  pub constant_rep : (bytes_at : Bytes → ℕ) (c : Constant) → Plain plan bytes_at c → Rep g store.memory (bits64 (constant_word bytes_at c)) (constant_value c)
  constant_rep bytes_at constant.Unit h = record { small = omega arith; means = refl }
  constant_rep bytes_at (constant.Leaf p) h = leaf_rep bytes_at p h

-- Operands where fixed words are read and literals stand for their values: in a heap that holds a world, and in one that is being filled.
module _ {W : Type 0} (plan : Plan) (link : Linkage) (pages : ℕ) (m : Module) (does : Contracts W) (globals : List Value) (sees : ℕ → ℕ) (g : Ghost) (store : Store W) (reads : (i : ℕ) → g.own i ≡ Fixed → Readable store.memory i) (stands : (c : Constant) → Plain plan link.bytes_at c → Rep g store.memory (bits64 (constant_word link.bytes_at c)) (constant_value c)) (names : NamesAt g store.memory link.names link.hidden globals) (f : Frame) (here : Here) where
  abbrev point : ℕ → List ℕ → At W
  point spent locals = record { spent = spent; store = store; locals = locals }

  abbrev Framed : List ℕ → Type 0
  Framed locals = FrameHeld g store.memory f here locals

  -- What has become of the locals: those below the i-th place are as they were.
  pub record Kept (i : ℕ) (locals locals' : List ℕ) : Type 0 where
    pub frame : Framed locals'
    pub same : (x : ℕ) → x < place_local here i → slice_index locals' x ≡ slice_index locals x

  kept_set : (i : ℕ) (locals : List ℕ) (v : ℕ) → Framed locals → Kept i locals (slice_set locals (place_local here i) v)
  kept_set i locals v h = record {
    frame = frame_behind g store.memory f here locals (place_local here i) v (omega arith) h;
    same = λ x lt. local_other locals (place_local here i) x v (λ e. omega (arith, lt, e));
  }

  -- a fixed word is loaded
  loaded : (i j : ℕ) (a : low.Operand) (offset : ℕ) (v : Value) (locals : List ℕ) (rest : Code) (p : CodeEnd W → Type 0) (spent : ℕ) → i < here.most → Framed locals → ValueAt g store.memory j v → low I32 (value_of a locals) + offset ≡ 8 * j
      → ((spent' : ℕ) (locals' : List ℕ) → spent' ≤ spent + 7 → Kept i locals locals' → Rep g store.memory (slice_index locals' (place_local here i)) v → Before pages m does rest p (point spent' locals'))
      → Before pages m does (Set (place_local here i) (Load load.I64 a offset) rest) p (point spent locals)
  loaded i j a offset v locals rest p spent lt h at e k =
      on_ok _ _ _ (word_at store.memory j) (ap (λ n. loads store.memory load.I64 n) e ∙ (reads j at.fixed).load)
      (k (spent + 3) (slice_set locals (place_local here i) (word_at store.memory j)) (omega arith) (kept_set i locals (word_at store.memory j) h)
      (subst (λ w. Rep g store.memory w v) (sym (local_here locals (place_local here i) (word_at store.memory j) (let s = h.long in omega (arith, s, lt)))) at.rep))

  member_word : (k b : ℕ) → 8 * b < 2 ^ 32 → 8 * (b + 2 * k) < 2 ^ 32 → low I64 (low I32 (8 * b) + 8 * (2 * k)) ≡ 8 * (b + 2 * k)
  member_word k b l h = ap (λ n. low I64 (n + 8 * (2 * k))) (low_is (8 * b) l) ∙ ap (low I64) (omega arith) ∙ wide_is (8 * (b + 2 * k)) (omega (arith, h))

  pub fetched_one : (i : ℕ) (x : Operand) (locals : List ℕ) (rest : Code) (p : CodeEnd W → Type 0) (spent : ℕ) → i < here.most → FitsOperand plan link globals sees here (length f.seen) x → Framed locals
      → ((spent' : ℕ) (locals' : List ℕ) → spent' ≤ spent + 7 → Kept i locals locals' → Rep g store.memory (value_of (place plan link here i x) locals') (value globals f x) → Before pages m does rest p (point spent' locals'))
      → Before pages m does (fetch plan link here i x rest) p (point spent locals)
  fetched_one i (Slot x) locals rest p spent lt fits h k = k spent locals (omega arith) (record { frame = h; same = λ x lt. refl }) (h.slots x fits)
  fetched_one i (operand.Constant c) locals rest p spent lt fits h k = k spent locals (omega arith) (record { frame = h; same = λ x lt. refl }) (stands c fits)
  fetched_one i (Global x) locals rest p spent lt fits h k =
      loaded i (link.names + x) (Word (pos 0)) (8 * (link.names + x)) (nth unit globals x) locals rest p spent lt h (names x fits.0 fits.1) (omega arith) k
  fetched_one i (Captured x) locals rest p spent lt fits h k =
      let at = h.block.captured x fits in
      let e : low I32 (slice_index locals 0) + 8 * (2 * here.members + x) ≡ 8 * (h.b + (2 * here.members + x)) =
      ap (λ w. low I32 w + 8 * (2 * here.members + x)) h.block_is ∙ ap (λ w. w + 8 * (2 * here.members + x)) (low_is (8 * h.b) h.low) ∙ omega arith in
      loaded i (h.b + (2 * here.members + x)) (Local 0) (8 * (2 * here.members + x)) (nth unit f.seen x) locals rest p spent lt h at e k
  fetched_one i (Member n) locals rest p spent lt fits h k =
      let t : ℕ = place_local here i in
      let w : ℕ = low I32 (slice_index locals 0) in
      let middle : List ℕ = slice_set locals t w in
      let d = h.block.member n fits in
      let small : 8 * (h.b + 2 * n) < 2 ^ 32 = (reads (h.b + 2 * n) d.2).small in
      let long : length middle ≡ length locals = length-set locals t w in
      let here_is : slice_index middle t ≡ w = local_here locals t w (let s = h.long in omega (arith, s, lt)) in
      let word_is : low I64 (slice_index middle t + 8 * (2 * n)) ≡ 8 * (h.b + 2 * n) =
      ap (λ u. low I64 (u + 8 * (2 * n))) here_is ∙ ap (λ u. low I64 (low I32 u + 8 * (2 * n))) h.block_is ∙ member_word n h.b h.low small in
      let last : ℕ = low I64 (slice_index middle t + 8 * (2 * n)) in
      let once : Framed middle = frame_behind g store.memory f here locals t w (omega arith) h in
      k (spent + 3 + 4) (slice_set middle t last) (omega arith)
      (record {
        frame = frame_behind g store.memory f here middle t last (omega arith) once;
        same = λ x less. local_other middle t x last (λ e. omega (arith, less, e)) ∙ local_other locals t x w (λ e. omega (arith, less, e));
      })
      (subst (λ u. Rep g store.memory u (value globals f (Member n))) (sym (local_here middle t last (let s = h.long in omega (arith, s, lt, long))))
      (record { small = subst (λ u. u < 2 ^ 64) (sym word_is) (omega (arith, small)); means = (word_is ∙ ap (λ u. 8 * (u + 2 * n)) (sym d.0), d.1) }))

  -- a place does not change where the locals below do not
  place_kept : (i : ℕ) (x : Operand) (locals locals' : List ℕ) → FitsOperand plan link globals sees here (length f.seen) x → ((y : ℕ) → y < place_local here (suc i) → slice_index locals' y ≡ slice_index locals y)
      → value_of (place plan link here i x) locals' ≡ value_of (place plan link here i x) locals
  place_kept i (Slot x) locals locals' fits same = same (suc x) (let lt : x < here.slots = fits in omega (arith, lt))
  place_kept i (Captured x) locals locals' fits same = same (place_local here i) (omega arith)
  place_kept i (Member x) locals locals' fits same = same (place_local here i) (omega arith)
  place_kept i (Global x) locals locals' fits same = same (place_local here i) (omega arith)
  place_kept i (operand.Constant c) locals locals' fits same = refl

  pub fetched : (i : ℕ) (xs : List Operand) (locals : List ℕ) (rest : Code) (p : CodeEnd W → Type 0) (spent : ℕ) → i + length xs ≤ here.most → FitOperands plan link globals sees here (length f.seen) xs → Framed locals
      → ((spent' : ℕ) (locals' : List ℕ) → spent' ≤ spent + 7 * length xs → Kept i locals locals' → Reps g store.memory (given (places plan link here i xs) locals') (values globals f xs) → Before pages m does rest p (point spent' locals'))
      → Before pages m does (fetches plan link here i xs rest) p (point spent locals)
  fetched i [] locals rest p spent le fits h k = k spent locals (omega arith) (record { frame = h; same = λ x lt. refl }) tt
  fetched i (x ∷ xs) locals rest p spent le fits h k =
      fetched_one i x locals (fetches plan link here (suc i) xs rest) p spent (omega (arith, le)) fits.0 h
      (λ once middle less kept rep.
      fetched (suc i) xs middle rest p once (omega (arith, le)) fits.1 kept.frame
      (λ twice last more also reps.
      k twice last (omega (arith, less, more))
      (record { frame = also.frame; same = λ y lt. also.same y (omega (arith, lt)) ∙ kept.same y lt })
      (subst (λ w. Rep g store.memory w (value globals f x)) (sym (place_kept i x middle last fits.0 also.same)) rep, reps)))
