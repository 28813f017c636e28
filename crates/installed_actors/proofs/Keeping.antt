-- The values of names come into their words.
use Rattle.std.proofs.Common.{◌≡◌, ℕ, zero, suc, ◌+◌, ◌*◌, ◌<◌, ◌^◌, List, [], ◌∷◌, length, true, Some, Ok, refl, sym, ap, ◌∙◌, subst, arith}
use Rattle.std.specs.Prelude.{pos}
use Rattle.mo_values.specs.Shapes.{Tuple, Shapes, NoShape, AShape, Made, Function, listed, unit}
use Rattle.mo_values.specs.Views.{tuple_of}
use Rattle.wasm_tree.specs.declared.types.ValueType.TheVariants.{I32}
use Rattle.wasm_tree.specs.declared.op.LoadKind.TheVariants as load
use Rattle.wasm_tree.specs.Numeric.{low}
use Rattle.wasm_tree.specs.Exec.{Store}
use Rattle.core_ir.specs.Choices.{nth}
use Rattle.core_ir.specs.Values.{Handle, Value}
use Rattle.core_ir.specs.Worlds.{World}
use Rattle.low_ir.specs.declared.op.Operand.TheVariants.{Local, Word}
use Rattle.low_ir.specs.declared.op.Operation.TheVariants.{Convert, Load}
use Rattle.wasm_tree.specs.declared.op.Conversion.TheVariants.{Wrap}
use Rattle.wasm_tree.specs.declared.op.StoreKind.TheVariants as store_kind
use Rattle.low_ir.specs.Tree.{Code, Module}
use Rattle.low_ir.specs.Tree as code
use Rattle.low_ir.specs.Meaning.{Calls}
use Rattle.low_ir.specs.Numbering.{upto}
use Rattle.low_rules.specs.Rule.{At, CodeEnd, Next, Contracts, loads, is_inside, Before}
use Rattle.low_rules.proofs.Steps.{on_ok, on_true, low_is}
use Rattle.code_sequences.specs.Laws.{Comes, Goes}
use Rattle.code_sequences.proofs.Prefix.{Never, straight}
use Rattle.module_laws.specs.Stored.{written}
use Rattle.memory_routines.specs.Heaps.{heap}
use Rattle.heap_layout.specs.Words.{word_at}
use Rattle.heap_layout.specs.Ghosts.{Ghost, Free, Fixed, Inner}
use Rattle.heap_layout.specs.Blocks.{shape_count}
use Rattle.heap_layout.specs.Means.{Means, PartsMean, Rep, ValueAt}
use Rattle.heap_layout.specs.Heaps.{Plan, Holds}
use Rattle.heap_layout.specs.Later.{Later}
use Rattle.heap_layout.proofs.Owners.{differ, words_read}
use Rattle.heap_layout.proofs.Meanings.{means_later, rep_later, value_later, same_later}
use Rattle.emitted_steps.specs.Operations.{HeapHeld}
use Rattle.installed_actors.specs.Entry.{keeps}
use Rattle.installed_actors.specs.Laws.{NamesKept, NamesAreKept}
use Rattle.installed_actors.proofs.Set.{with_set, later, word_is, set_here, set_other, still_holds}

abbrev no_calls : {W : Type 0} → Contracts W
no_calls f store args q = ⊥

pub then_later : (a b c : Ghost) (l m n : List ℕ) → Later a b l m → Later b c m n → Later a c l n
then_later a b c l m n x y = record {
  fixed = λ i e. y.fixed i (x.fixed i e);
  words = λ i e. y.words i (x.fixed i e) ∙ x.words i e;
  held = let p = x.held in let q = y.held in omega (arith, p, q);
  cells = λ k lt. y.cells k (let p = x.held in omega (arith, lt, p)) ∙ x.cells k lt;
  made = let p = x.made in let q = y.made in omega (arith, p, q);
  groups = λ k lt. y.groups k (let p = x.made in omega (arith, lt, p)) ∙ x.groups k lt;
  called = let p = x.called in let q = y.called in omega (arith, p, q);
  futures = λ k lt. y.futures k (let p = x.called in omega (arith, lt, p)) ∙ x.futures k lt;
}

parts_since : (g g' : Ghost) (l l' : List ℕ) → Later g g' l l' → (i : ℕ) (os : List ℕ) (vs : Shapes Handle) → PartsMean g l i os vs → PartsMean g' l' i os vs
parts_since g g' l l' s i os NoShape r = tt
parts_since g g' l l' s i [] (AShape v vs) r = absurd r
parts_since g g' l l' s i (o ∷ os) (AShape v vs) r =
    (s.fixed (i + o) r.0, subst (λ x. x < 2 ^ 64) (sym (s.words (i + o) r.0)) r.1, subst (λ x. Means g' l' x v) (sym (s.words (i + o) r.0)) (means_later g g' l l' s (word_at l (i + o)) v r.2), parts_since g g' l l' s i os vs r.3)

module _ (plan : Plan) (world : World) {W : Type 0} (pages : ℕ) (m : Module) (store : Store W) (count top : ℕ) (others : List ℕ) (first i word : ℕ) where
  abbrev point : ℕ → List ℕ → ℕ → At W
  point spent memory spare = record { spent = spent; store = heap store memory (8 * top) others; locals = word ∷ 8 * i ∷ spare ∷ [] }

  -- From the k-th part on, the parts have come into their words.
  pub record Came (g : Ghost) (memory : List ℕ) (k : ℕ) (vs : Shapes Handle) (spent : ℕ) (h : At W) : Type 0 where
    pub ghost : Ghost
    pub grown : List ℕ
    pub spare : ℕ
    pub is : h ≡ point (spent + 6 * shape_count vs) grown spare
    pub holds : Holds plan ghost world grown count top
    pub later : Later g ghost memory grown
    pub set : (x : ℕ) → x < shape_count vs → ValueAt ghost grown (first + (k + x)) (nth unit (listed vs) x)

  load_step : (p : CodeEnd W → Type 0) (rest : Code) (memory : List ℕ) (spent spare v offset a : ℕ) → low I32 (8 * i) + offset ≡ a → loads memory load.I64 a ≡ Ok v → Before pages m no_calls rest p (point (spent + 3) memory v)
      → Before pages m no_calls (code.Set 2 (Load load.I64 (Local 1) offset) rest) p (point spent memory spare)
  load_step p rest memory spent spare v offset a e read more = on_ok _ _ (loads memory load.I64 (low I32 (8 * i) + offset)) v (ap (loads memory load.I64) e ∙ read) more

  store_step : (p : CodeEnd W → Type 0) (rest : Code) (memory : List ℕ) (spent v offset : ℕ) → is_inside memory offset 8 ≡ true → Before pages m no_calls rest p (point (spent + 3) (written memory offset 8 v) v)
      → Before pages m no_calls (code.Store store_kind.I64 (Word (pos 0)) offset (Local 2) rest) p (point spent memory v)
  store_step p rest memory spent v offset inside more =
      let none : offset ≡ low I32 0 + offset = omega arith in
      on_true _ _ (is_inside memory (low I32 0 + offset) 8) (ap (λ a. is_inside memory a 8) (sym none) ∙ inside) (subst (λ a. Before pages m no_calls rest p (point (spent + 3) (written memory a 8 v) v)) none more)

  pub keeping : (p : CodeEnd W → Type 0) (vs : Shapes Handle) (k : ℕ) (g : Ghost) (memory : List ℕ) (spent spare : ℕ) → Holds plan g world memory count top → PartsMean g memory i (upto (1 + k) (shape_count vs)) vs
      → ((x : ℕ) → x < shape_count vs → g.own (first + (k + x)) ≡ Inner) → ((h : At W) → Came g memory k vs spent h → p (Next h)) → Before pages m no_calls (keeps first k (shape_count vs)) p (point spent memory spare)
  keeping p NoShape k g memory spent spare holds parts inner then =
      then (point spent memory spare) (record { ghost = g; grown = memory; spare = spare; is = ap (λ n. point n memory spare) (omega arith); holds = holds; later = same_later g memory; set = λ x lt. absurd (omega (arith, lt)) })
  keeping p (AShape v vs) k g memory spent spare holds parts inner then =
      let n : ℕ = shape_count vs in
      let one : 1 + n ≡ suc n = omega arith in
      let here : PartsMean g memory i (upto (1 + k) (suc n)) (AShape v vs) = subst (λ c. PartsMean g memory i (upto (1 + k) c) (AShape v vs)) one parts in
      let w : ℕ = word_at memory (i + (1 + k)) in
      let owned : g.own (first + k) ≡ Inner = ap g.own (omega arith) ∙ inner 0 (omega arith) in
      let r = words_read plan g world memory count top holds (i + (1 + k)) (λ free. differ Free Fixed (λ k. omega (arith, k)) (sym free ∙ here.0)) in
      let s = words_read plan g world memory count top holds (first + k) (λ free. differ Free Inner (λ k. omega (arith, k)) (sym free ∙ owned)) in
      let near : 8 * i < 2 ^ 32 = let a = holds.heap.inside in let b = holds.heap.whole in let d = holds.heap.few in let lt = r.0 in omega (arith, a, b, d, lt) in
      let address : low I32 (8 * i) + 8 * (1 + k) ≡ 8 * (i + (1 + k)) = ap (λ a. a + 8 * (1 + k)) (low_is (8 * i) near) ∙ (let e : 8 * i + 8 * (1 + k) ≡ 8 * (i + (1 + k)) = omega arith in e) in
      subst (λ c. Before pages m no_calls (keeps first k c) p (point spent memory spare)) (sym one)
      (load_step p (code.Store store_kind.I64 (Word (pos 0)) (8 * (first + k)) (Local 2) (keeps first (suc k) n)) memory spent spare w (8 * (1 + k)) (8 * (i + (1 + k))) address r.1.load
      (store_step p (keeps first (suc k) n) memory (spent + 3) w (8 * (first + k)) s.1.inside
      (further p v vs k g memory spent w holds owned here.1 here.2 here.3 inner then
      (keeping p vs (suc k) (with_set g (first + k)) (written memory (8 * (first + k)) 8 w) (spent + 3 + 3) w))))
    where
      further : (p : CodeEnd W → Type 0) (v : Value) (vs : Shapes Handle) (k : ℕ) (g : Ghost) (memory : List ℕ) (spent w : ℕ) (holds : Holds plan g world memory count top) (owned : g.own (first + k) ≡ Inner) (small : w < 2 ^ 64) → Means g memory w v → PartsMean g memory i (upto (suc (1 + k)) (shape_count vs)) vs
          → ((x : ℕ) → x < 1 + shape_count vs → g.own (first + (k + x)) ≡ Inner) → ((h : At W) → Came g memory k (AShape v vs) spent h → p (Next h))
          → (Holds plan (with_set g (first + k)) world (written memory (8 * (first + k)) 8 w) count top → PartsMean (with_set g (first + k)) (written memory (8 * (first + k)) 8 w) i (upto (1 + suc k) (shape_count vs)) vs
          → ((x : ℕ) → x < shape_count vs → (with_set g (first + k)).own (first + (suc k + x)) ≡ Inner) → ((h : At W) → Came (with_set g (first + k)) (written memory (8 * (first + k)) 8 w) (suc k) vs (spent + 3 + 3) h → p (Next h))
          → Before pages m no_calls (keeps first (suc k) (shape_count vs)) p (point (spent + 3 + 3) (written memory (8 * (first + k)) 8 w) w))
          → Before pages m no_calls (keeps first (suc k) (shape_count vs)) p (point (spent + 3 + 3) (written memory (8 * (first + k)) 8 w) w)
      further p v vs k g memory spent w holds owned small means rest inner then more =
          let n : ℕ = shape_count vs in
          let g2 : Ghost = with_set g (first + k) in
          let grown : List ℕ = written memory (8 * (first + k)) 8 w in
          let since : Later g g2 memory grown = later plan g world memory count top holds (first + k) w owned small in
          let two : suc (1 + k) ≡ 1 + suc k = omega arith in
          more (still_holds plan g world memory count top holds (first + k) w owned small)
          (subst (λ o. PartsMean g2 grown i (upto o n) vs) two (parts_since g g2 memory grown since i (upto (suc (1 + k)) n) vs rest))
          (λ x lt. set_other plan g world memory count top holds (first + k) w owned small (first + (suc k + x)) (λ e. omega (arith, e)) ∙ ap g.own (let e : first + (suc k + x) ≡ first + (k + suc x) = omega arith in e) ∙ inner (suc x) (omega (arith, lt)))
          (λ h c. then h
          (record {
            ghost = c.ghost;
            grown = c.grown;
            spare = c.spare;
            is = c.is ∙ ap (λ n. point n c.grown c.spare) (let e : spent + 3 + 3 + 6 * n ≡ spent + 6 * (1 + n) = omega arith in e);
            holds = c.holds;
            later = then_later g g2 c.ghost memory grown c.grown since c.later;
            set =
                came c.ghost c.grown
                (value_later g2 c.ghost grown c.grown c.later (first + k) v
                (record {
                  fixed = set_here plan g world memory count top holds (first + k) w owned small;
                  rep = subst (λ x. Rep g2 grown x v) (sym (word_is plan g world memory count top holds (first + k) w owned small)) (rep_later g g2 memory grown since w v (record { small = small; means = means }));
                }))
                c.set;
          }))
        where
          came : (ghost : Ghost) (grown : List ℕ) → ValueAt ghost grown (first + k) v → ((x : ℕ) → x < shape_count vs → ValueAt ghost grown (first + (suc k + x)) (nth unit (listed vs) x)) → (x : ℕ) → x < 1 + shape_count vs → ValueAt ghost grown (first + (k + x)) (nth unit (listed (AShape v vs)) x)
          came ghost grown a all zero lt = subst (λ j. ValueAt ghost grown j v) (omega arith) a
          came ghost grown a all (suc x) lt = subst (λ j. ValueAt ghost grown j (nth unit (listed vs) x)) (omega arith) (all x (omega (arith, lt)))

-- ---- of a tuple

listed_length : (vs : Shapes Handle) → length (listed vs) ≡ shape_count vs
listed_length NoShape = refl
listed_length (AShape v vs) = let e = listed_length vs in omega (arith, e)

module _ {W : Type 0} (plan : Plan) (g : Ghost) (world : World) (pages : ℕ) (m : Module) (calls : Calls W) (store : Store W) (top : ℕ) (held : HeapHeld plan g world store top) (first word a b : ℕ) where
  abbrev begin : Store W → At W
  begin s = record { spent = 0; store = s; locals = word ∷ a ∷ b ∷ [] }

  abbrev P : List Value → At W → Type 0
  P names h = NamesKept plan g world store top first names h

  -- Parts that stand in a block come into the words.
  from_block : (i : ℕ) (vs : Shapes Handle) → low I32 word ≡ 8 * i → PartsMean g store.memory i (upto 1 (shape_count vs)) vs → ((x : ℕ) → x < length (listed vs) → g.own (first + x) ≡ Inner)
      → Goes pages m calls (code.Set 1 (Convert Wrap (Local 0)) (keeps first 0 (length (listed vs)))) (P (listed vs)) (begin store)
  from_block i vs address parts inner =
      let n = listed_length vs in
      let is = held.is in
      subst (λ s. Goes pages m calls (code.Set 1 (Convert Wrap (Local 0)) (keeps first 0 (length (listed vs)))) (P (listed vs)) (begin s)) (sym is)
      (straight pages m calls no_calls (λ f s args q d. absurd d) (code.Set 1 (Convert Wrap (Local 0)) (keeps first 0 (length (listed vs)))) (P (listed vs)) (begin (heap store store.memory (8 * top) held.others))
      (subst (λ c. Before pages m no_calls (keeps first 0 c) (Comes (P (listed vs)) Never) (record { spent = 0 + 3; store = heap store store.memory (8 * top) held.others; locals = word ∷ low I32 word ∷ b ∷ [] })) (sym n)
      (subst (λ x. Before pages m no_calls (keeps first 0 (shape_count vs)) (Comes (P (listed vs)) Never) (record { spent = 0 + 3; store = heap store store.memory (8 * top) held.others; locals = word ∷ x ∷ b ∷ [] })) (sym address)
      (keeping plan world pages m store held.count top held.others first i word (Comes (P (listed vs)) Never) vs 0 g store.memory (0 + 3) b held.holds (subst (λ o. PartsMean g store.memory i (upto o (shape_count vs)) vs) (let e : 1 ≡ 1 + 0 = omega arith in e) parts)
      (λ x lt. ap g.own (let e : first + (0 + x) ≡ first + x = omega arith in e) ∙ inner x (omega (arith, lt, n)))
      (λ h c. subst (P (listed vs)) (sym c.is)
      (record {
        ghost = c.ghost;
        heap = record { count = held.count; others = held.others; is = refl; holds = c.holds };
        later = c.later;
        set = λ x lt. subst (λ j. ValueAt c.ghost c.grown j (nth unit (listed vs) x)) (let e : first + (0 + x) ≡ first + x = omega arith in e) (c.set x (omega (arith, lt, n)));
        table = refl;
        shown = refl;
        spent = omega (arith, n);
      }))))))

  kept : (v : Value) (names : List Value) → Rep g store.memory word v → tuple_of v ≡ Some names → ((x : ℕ) → x < length names → g.own (first + x) ≡ Inner)
      → Goes pages m calls (code.Set 1 (Convert Wrap (Local 0)) (keeps first 0 (length names))) (P names) (begin store)
  kept (Made Tuple NoShape) names rep e inner =
      let same : [] ≡ names = cc e in
      subst (λ names. Goes pages m calls (code.Set 1 (Convert Wrap (Local 0)) (keeps first 0 (length names))) (P names) (begin store)) same
      (from_block 0 NoShape (ap (low I32) rep.means) tt (λ x lt. absurd (omega (arith, lt))))
  kept (Made Tuple (AShape u us)) names rep e inner =
      let same : listed (AShape u us) ≡ names = cc e in
      let i : ℕ = rep.means.0 in
      let word_is : word ≡ 8 * i = rep.means.1 in
      let parts = rep.means.4 in
      subst (λ names. Goes pages m calls (code.Set 1 (Convert Wrap (Local 0)) (keeps first 0 (length names))) (P names) (begin store)) same
      (from_block i (AShape u us) (ap (low I32) word_is ∙ low_is (8 * i) (near i parts)) parts (λ x lt. inner x (subst (λ l. x < length l) same lt)))
    where
      near : (i : ℕ) → PartsMean g store.memory i (upto 1 (1 + shape_count us)) (AShape u us) → 8 * i < 2 ^ 32
      near i parts =
          let one : 1 + shape_count us ≡ suc (shape_count us) = omega arith in
          let here : PartsMean g store.memory i (upto 1 (suc (shape_count us))) (AShape u us) = subst (λ c. PartsMean g store.memory i (upto 1 c) (AShape u us)) one parts in
          let r = words_read plan g world store.memory held.count top held.holds (i + 1) (λ free. differ Free Fixed (λ k. omega (arith, k)) (sym free ∙ here.0)) in
          let c = held.holds.heap.inside in let d = held.holds.heap.whole in let f = held.holds.heap.few in let lt = r.0 in omega (arith, c, d, f, lt)
  kept (Function h) names rep e inner = absurd (cc e)
  kept (Made head inside) names rep e inner = absurd (cc e)

pub names_kept : (W : Type 0) → NamesAreKept W
names_kept W plan g world pages m calls store top held first word v names rep e inner a b = kept plan g world pages m calls store top held first word a b v names rep e inner
