-- The block of a group of functions is filled, word by word. What a group sees is read meanwhile.
use Rattle.std.proofs.Common.{◌≡◌, ℕ, zero, suc, ◌+◌, ◌*◌, ◌<◌, ◌≤◌, ◌^◌, List, [], ◌∷◌, length, refl, sym, ap, ◌∙◌, subst, arith}
use Rattle.std.specs.Prelude.{slice_index, pos}
use Rattle.wasm_tree.specs.declared.trap.Trap.TheVariants as trap
use Rattle.wasm_tree.specs.declared.types.ValueType.TheVariants.{I32}
use Rattle.wasm_tree.specs.declared.op.StoreKind.TheVariants as kind
use Rattle.wasm_tree.specs.Numeric.{low}
use Rattle.wasm_tree.specs.Exec.{Store, bits64}
use Rattle.core_ir.specs.declared.constant.Constant.{Constant}
use Rattle.core_ir.specs.declared.code.Operand.{Operand}
use Rattle.core_ir.specs.Values.{Value, constant_value}
use Rattle.core_ir.specs.Worlds.{World}
use Rattle.core_ir.specs.CodeMachine.{Frame, value, values}
use Rattle.low_ir.specs.declared.op.Operand as op
use Rattle.low_ir.specs.declared.op.Operand.TheVariants.{Local, Long}
use Rattle.low_ir.specs.Tree as tree
use Rattle.low_ir.specs.Tree.{Code, Module}
use Rattle.low_rules.specs.Rule.{At, CodeEnd, Stops, Contracts, OnTest, value_of, is_inside, Before}
use Rattle.low_rules.proofs.Steps.{on_true, le_test, low_is}
use Rattle.module_laws.specs.Stored.{written}
use Rattle.memory_routines.specs.Heaps.{IsHeap}
use Rattle.heap_layout.specs.Words.{word_at}
use Rattle.heap_layout.specs.Ghosts.{Ghost, Fixed}
use Rattle.heap_layout.specs.Fills.{filled, entry_words}
use Rattle.heap_layout.specs.Means.{Rep, Reps}
use Rattle.heap_layout.specs.Heaps.{Plan}
use Rattle.heap_layout.specs.Later.{Later}
use Rattle.heap_layout.proofs.Fills.{filled_length, filled_below}
use Rattle.heap_layout.proofs.Meanings.{rep_later}
use Rattle.heap_layout.proofs.Owners.{is_read}
use Rattle.flat_emission.specs.Emission.{Linkage, Here, constant_word, place, entries, captures, first_word, value_word}
use Rattle.emitted_steps.specs.Operations.{HeapHeld}
use Rattle.emitted_steps.specs.States.{NamesAt, FrameHeld, Plain, FitOperands}
use Rattle.emitted_steps.proofs.Frames.{frame_later, names_later}
use Rattle.emitted_steps.proofs.Operands.{Readable, fixed_read, address_low, constant_rep, fetched_one}

-- Where so many bytes were allocated, from word `top` on.
module _ {W : Type 0} (plan : Plan) (link : Linkage) (pages : ℕ) (m : Module) (does : Contracts W) (globals : List Value) (sees : ℕ → ℕ) (g : Ghost) (world : World) (base : Store W) (top : ℕ) (heap : HeapHeld plan g world base top) (names : NamesAt g base.memory link.names link.hidden globals)
    (fr : Frame) (here : Here) (ends : List ℕ) (count size : ℕ) where
  -- The words of the heap that was are there, and there is room for the block.
  pub record Filling (memory : List ℕ) : Type 0 where
    pub is : IsHeap memory count (8 * top + size)
    pub old : (i : ℕ) → i < top → word_at memory i ≡ word_at base.memory i

  abbrev pub now : List ℕ → Store W
  now memory = record { memory = memory; globals = ends; table = base.table; refused = base.refused; world = base.world }

  abbrev pub spot : ℕ → List ℕ → List ℕ → At W
  spot spent memory locals = record { spent = spent; store = now memory; locals = locals }

  put_word : (memory : List ℕ) (i w : ℕ) → top ≤ i → 8 * i + 8 ≤ 8 * top + size → Filling memory → Filling (filled memory i (w ∷ []))
  put_word memory i w le room f =
      let inside : 8 * i + 8 * length (w ∷ []) ≤ length memory = let h = f.is.inside in omega (arith, h, room) in
      let same : length (filled memory i (w ∷ [])) ≡ length memory = filled_length memory i (w ∷ []) inside in
      record {
        is = record { whole = same ∙ f.is.whole; few = f.is.few; inside = let h = f.is.inside in omega (arith, h, same) };
        old = λ j lt. filled_below memory i (w ∷ []) j inside (omega (arith, lt, le)) ∙ f.old j lt;
      }

  -- ---- words that are fixed

  below : (i : ℕ) → g.own i ≡ Fixed → i < top
  below i e = (fixed_read plan g world base top heap i e).0

  fixed_now : (memory : List ℕ) → Filling memory → (i : ℕ) → g.own i ≡ Fixed → Readable memory i
  fixed_now memory f i e = record {
    small = address_low plan g world base top heap i (below i e);
    load = (is_read memory count top i (record { whole = f.is.whole; few = f.is.few; inside = let h = f.is.inside in omega (arith, h) }) (below i e)).load;
  }

  later_now : (memory : List ℕ) → Filling memory → Later g g base.memory memory
  later_now memory f =
      record { fixed = λ i e. e; words = λ i e. f.old i (below i e); held = omega arith; cells = λ n lt. refl; made = omega arith; groups = λ k lt. refl; called = omega arith; futures = λ n lt. refl }

  before_now : (memory : List ℕ) → Filling memory → Later g g memory base.memory
  before_now memory f =
      record { fixed = λ i e. e; words = λ i e. sym (f.old i (below i e)); held = omega arith; cells = λ n lt. refl; made = omega arith; groups = λ k lt. refl; called = omega arith; futures = λ n lt. refl }

  stands_now : (memory : List ℕ) → Filling memory → (c : Constant) → Plain plan link.bytes_at c → Rep g memory (bits64 (constant_word link.bytes_at c)) (constant_value c)
  stands_now memory f c fits = rep_later g g base.memory memory (later_now memory f) (bits64 (constant_word link.bytes_at c)) (constant_value c) (constant_rep plan g world base top heap link.bytes_at c fits)

  -- ---- stores

  stores : (i offset w : ℕ) (a : op.Operand) (rest : Code) (p : CodeEnd W → Type 0) (spent : ℕ) (memory locals : List ℕ) → 8 * top + offset ≡ 8 * i → top ≤ i → 8 * i + 8 ≤ 8 * top + size → slice_index locals (first_word here) ≡ 8 * top → value_of a locals ≡ w → Filling memory
      → (Filling (filled memory i (w ∷ [])) → Before pages m does rest p (spot (spent + 3) (filled memory i (w ∷ [])) locals))
      → Before pages m does (tree.Store kind.I64 (Local (first_word here)) offset a rest) p (spot spent memory locals)
  stores i offset w a rest p spent memory locals e le room at is f k =
      let small : 8 * top < 2 ^ 32 = let h = f.is.inside in let l = f.is.whole in let n = f.is.few in omega (arith, h, l, n) in
      let address : low I32 (slice_index locals (first_word here)) + offset ≡ 8 * i = ap (λ n. low I32 n + offset) at ∙ ap (λ n. n + offset) (low_is (8 * top) small) ∙ e in
      subst (λ x. OnTest (is_inside memory x 8) (Before pages m does rest p (spot (spent + 3) (written memory x 8 (value_of a locals)) locals)) (p (Stops trap.Bounds (spent + 3) (now memory)))) (sym address)
      (subst (λ v. OnTest (is_inside memory (8 * i) 8) (Before pages m does rest p (spot (spent + 3) (written memory (8 * i) 8 v) locals)) (p (Stops trap.Bounds (spent + 3) (now memory)))) (sym is)
      (on_true _ _ _ (le_test (8 * i + 8) (length memory) (let h = f.is.inside in omega (arith, h, room))) (k (put_word memory i w le room f))))

  -- The words of functions, from the k-th one on.
  pub entries_do : (code k count' i : ℕ) (rest : Code) (p : CodeEnd W → Type 0) (spent : ℕ) (memory locals : List ℕ) → i ≡ top + 2 * k → 8 * (i + 2 * count') ≤ 8 * top + size → 1 ≤ spent → slice_index locals (first_word here) ≡ 8 * top → slice_index locals (value_word here) ≡ 8 * top → Filling memory
      → ((spent' : ℕ) → 1 ≤ spent' → spent' ≤ spent + 6 * count' → Filling (filled memory i (entry_words plan code top k count')) → Before pages m does rest p (spot spent' (filled memory i (entry_words plan code top k count')) locals))
      → Before pages m does (entries plan link here code k count' rest) p (spot spent memory locals)
  entries_do code k zero i rest p spent memory locals e room some one two f go = go spent some (omega arith) f
  entries_do code k (suc n) i rest p spent memory locals e room some one two f go =
      stores i (8 * (2 * k)) (plan.entry_of code k) (Long (pos (plan.entry_of code k))) (tree.Store kind.I64 (Local (first_word here)) (8 * (2 * k + 1)) (Local (value_word here)) (entries plan link here code (suc k) n rest)) p spent memory locals (omega (arith, e)) (omega (arith, e)) (omega (arith, room)) one refl f
      (λ f1.
      stores (suc i) (8 * (2 * k + 1)) (8 * top) (Local (value_word here)) (entries plan link here code (suc k) n rest) p (spent + 3) (filled memory i (plan.entry_of code k ∷ [])) locals (omega (arith, e)) (omega (arith, e)) (omega (arith, room)) one two f1
      (λ f2.
      entries_do code (suc k) n (suc (suc i)) rest p (spent + 3 + 3) (filled memory i (plan.entry_of code k ∷ 8 * top ∷ [])) locals (omega (arith, e)) (omega (arith, room)) (omega arith) one two f2
      (λ spent' ok less f3. go spent' ok (omega (arith, less)) f3)))

  -- What the group sees, from word x of the block on.
  pub captures_do : (xs : List Operand) (x i : ℕ) (rest : Code) (p : CodeEnd W → Type 0) (spent : ℕ) (memory locals : List ℕ) → i ≡ top + x → 8 * (i + length xs) ≤ 8 * top + size → 1 ≤ spent → 0 < here.most → FitOperands plan link globals sees here (length fr.seen) xs
      → slice_index locals (first_word here) ≡ 8 * top → slice_index locals (value_word here) ≡ 8 * top → FrameHeld g base.memory fr here locals → Filling memory
      → ((spent' : ℕ) (locals' ws : List ℕ) → 1 ≤ spent' → spent' ≤ spent + 10 * length xs → slice_index locals' (value_word here) ≡ 8 * top → FrameHeld g base.memory fr here locals' → Reps g base.memory ws (values globals fr xs) → Filling (filled memory i ws)
      → Before pages m does rest p (spot spent' (filled memory i ws) locals'))
      → Before pages m does (captures plan link here x xs rest) p (spot spent memory locals)
  captures_do [] x i rest p spent memory locals e room some most fits one two frame f go = go spent locals [] some (omega arith) two frame tt f
  captures_do (a ∷ xs) x i rest p spent memory locals e room some most fits one two frame f go =
      fetched_one plan link pages m does globals sees g (now memory) (fixed_now memory f) (stands_now memory f) (names_later g g base.memory memory (later_now memory f) link.names link.hidden globals names) fr here 0 a locals
      (tree.Store kind.I64 (Local (first_word here)) (8 * x) (place plan link here 0 a) (captures plan link here (suc x) xs rest)) p spent most fits.0 (frame_later g g base.memory memory (later_now memory f) fr here locals frame)
      (λ once middle less kept rep.
      let w : ℕ = value_of (place plan link here 0 a) middle in
      let one' : slice_index middle (first_word here) ≡ 8 * top = kept.same (first_word here) (omega arith) ∙ one in
      let two' : slice_index middle (value_word here) ≡ 8 * top = kept.same (value_word here) (omega arith) ∙ two in
      stores i (8 * x) w (place plan link here 0 a) (captures plan link here (suc x) xs rest) p once memory middle (omega (arith, e)) (omega (arith, e)) (omega (arith, room)) one' refl f
      (λ f1.
      captures_do xs (suc x) (suc i) rest p (once + 3) (filled memory i (w ∷ [])) middle (omega (arith, e)) (omega (arith, room)) (omega arith) most fits.1 one' two' (frame_later g g memory base.memory (before_now memory f) fr here middle kept.frame) f1
      (λ spent' locals' ws ok more two'' held reps f2.
      go spent' locals' (w ∷ ws) ok (omega (arith, less, more)) two'' held (rep_later g g memory base.memory (before_now memory f) w (value globals fr a) rep, reps) f2)))
