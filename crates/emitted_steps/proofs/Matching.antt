-- Forms of values.
use Rattle.std.proofs.Common.{◌≡◌, ◌⊎◌, inl, inr, ℕ, zero, suc, ◌+◌, ◌*◌, ◌<◌, ◌≤◌, ◌^◌, List, [], ◌∷◌, length, Bool, true, false, nat_eq, Option, refl, sym, ap, ◌∙◌, subst, arith}
use Rattle.std.specs.Prelude.{slice_index, slice_set}
use Rattle.std.proofs.lemmas.Bool.Decides.{nat_tests}
use Rattle.mo_types.specs.declared.datum.Datum.TheVariants as part
use Rattle.mo_values.specs.Shapes.{Bytes, Leaf, Present, Tuple, Array, Object, Tag, Error, Cell, Future, Made, Function, NoShape, AShape}
use Rattle.wasm_tree.specs.declared.trap.Trap.TheVariants as trap
use Rattle.wasm_tree.specs.declared.types.ValueType.TheVariants.{I32, I64}
use Rattle.wasm_tree.specs.declared.op.Conversion.TheVariants.{Wrap}
use Rattle.wasm_tree.specs.declared.op.LoadKind.TheVariants as load
use Rattle.wasm_tree.specs.Numeric.{low, flag, equals_zero}
use Rattle.wasm_tree.specs.Exec.{Host, Store, if_zero, with_local}
use Rattle.core_ir.specs.declared.primitive.Constructor.TheVariants as form
use Rattle.core_ir.specs.declared.code.Operand.{Operand}
use Rattle.core_ir.specs.Openings.{Opened, Inside, Otherwise, NotOne, option_opened, opened}
use Rattle.core_ir.specs.Values.{Value}
use Rattle.core_ir.specs.Worlds.{World, Context}
use Rattle.core_ir.specs.Code as source
use Rattle.core_ir.specs.CodeMachine as flat
use Rattle.core_ir.specs.CodeMachine.{Frame, at, put, value, matched}
use Rattle.low_ir.specs.declared.op.Operand as op
use Rattle.low_ir.specs.declared.op.Operand.TheVariants.{Local}
use Rattle.low_ir.specs.declared.op.Operation.TheVariants.{IsZero, Convert, Load}
use Rattle.low_ir.specs.Tree as low
use Rattle.low_ir.specs.Tree.{Code, Stop, Module}
use Rattle.low_ir.specs.Meaning.{Called, Breaks, onward, tick, run}
use Rattle.low_rules.specs.Rule.{At, value_of, loads}
use Rattle.low_rules.proofs.Steps.{on_ok, low_is}
use Rattle.code_sequences.specs.Laws.{Goes}
use Rattle.code_sequences.proofs.Prefix.{straight}
use Rattle.code_sequences.specs.Places.{After, Place, closes}
use Rattle.code_sequences.specs.Places as places
use Rattle.heap_layout.specs.Words.{word_at}
use Rattle.heap_layout.specs.Ghosts.{Ghost}
use Rattle.heap_layout.specs.Means.{Means, Rep, ValueAt}
use Rattle.heap_layout.specs.Heaps.{Plan}
use Rattle.flat_emission.specs.Emission.{Linkage, emit, place, first_word}
use Rattle.emitted_steps.specs.States.{FrameHeld, Held}
use Rattle.emitted_steps.specs.Shortage.{ShowsMore, IsShort, StepsRunOut}
use Rattle.emitted_steps.specs.Steps.{Usual, Lacks, own_steps}
use Rattle.emitted_steps.proofs.Short.{either, shows_same, short_on, closed_short, out_now, goes_or}
use Rattle.emitted_steps.proofs.Frames.{local_here, frame_behind, frame_slot}
use Rattle.emitted_steps.proofs.Operands.{no_calls, place_between, fixed_read, address_low, wide_is}
use Rattle.emitted_steps.proofs.Control.{calls, moved, Follows, are_paid}
use Rattle.emitted_steps.proofs.Ready.{Ready, ready, operand_is, operand_none}
use Rattle.emitted_steps.proofs.Opened.{opened_held}

-- ---- options

-- An option that is there is the address of a fixed word that stands for what is inside.
pub record Filled (g : Ghost) (memory : List ℕ) (w : ℕ) (v : Value) : Type 0 where
  pub i : ℕ
  pub word_is : w ≡ 8 * i
  pub some : 0 < i
  pub inside : ValueAt g memory i v

filled_option : (g : Ghost) (memory : List ℕ) (w : ℕ) (v : Value) → Means g memory w (Made Present (AShape v NoShape)) → Filled g memory w v
filled_option g memory w v h =
    let i : ℕ = h.0 in
    let e : i + 0 ≡ i = omega arith in
    record {
      i = i;
      word_is = h.1;
      some = h.2;
      inside = subst (λ j. ValueAt g memory j v) e (record { fixed = h.4.0; rep = record { small = h.4.1; means = h.4.2 } });
    }

module _ (B : Opened → Type 0) where
  pub by_option : (v : Value) → B NotOne → ((u : Value) → v ≡ Made Present (AShape u NoShape) → B (Inside u)) → (v ≡ Made (Leaf part.Null) NoShape → B Otherwise) → B (option_opened v)
  by_option (Made Present (AShape u NoShape)) o k n = k u refl
  by_option (Made Present (AShape u (AShape w vs))) o k n = o
  by_option (Made Present NoShape) o k n = o
  by_option (Made (Leaf part.Null) NoShape) o k n = n refl
  by_option (Made (Leaf part.Null) (AShape v vs)) o k n = o
  by_option (Made (Leaf (part.Flag b)) inside) o k n = o
  by_option (Made (Leaf (part.Number b)) inside) o k n = o
  by_option (Made (Leaf (part.Char b)) inside) o k n = o
  by_option (Made (Leaf (part.Text b)) inside) o k n = o
  by_option (Made (Leaf (part.Blob b)) inside) o k n = o
  by_option (Made (Leaf (part.Principal b)) inside) o k n = o
  by_option (Made (Leaf (part.Actor b)) inside) o k n = o
  by_option (Made (Leaf (part.Method b l)) inside) o k n = o
  by_option (Made (Leaf part.Present) inside) o k n = o
  by_option (Made (Leaf (part.Many b)) inside) o k n = o
  by_option (Made (Leaf (part.Record b)) inside) o k n = o
  by_option (Made (Leaf (part.Tag b)) inside) o k n = o
  by_option (Made Tuple inside) o k n = o
  by_option (Made Array inside) o k n = o
  by_option (Made (Object ls) inside) o k n = o
  by_option (Made (Tag l) inside) o k n = o
  by_option (Made (Error a t) inside) o k n = o
  by_option (Made (Cell a) inside) o k n = o
  by_option (Made (Future a) inside) o k n = o
  by_option (Function h) o k n = o

zero_test : (w : ℕ) → w ≡ 0 → equals_zero I64 w ≡ flag true
zero_test w e = ap (equals_zero I64) e

some_test : (w i : ℕ) → w ≡ 8 * i → 0 < i → w < 2 ^ 64 → equals_zero I64 w ≡ flag false
some_test w i e some small = ap (λ n. flag (nat_eq n 0)) (wide_is w small) ∙ ap flag (not_zero w (omega (arith, e, some)))
  where
    not_zero : (n : ℕ) → 0 < n → nat_eq n 0 ≡ false
    not_zero n lt = grind (arith, nat_tests)

module _ (plan : Plan) (link : Linkage) (table : List (Option ℕ)) (sees : ℕ → ℕ) (context : Context) {W : Type 0} (pages : ℕ) (m : Module) (host : Host W) (told fell : W → Bytes → W) (prints_of : W → List Bytes) (out : StepsRunOut pages m host told fell prints_of) (unit_steps total roof below : ℕ)
    (world : World) (g : Ghost) (top : ℕ) (ks : List flat.Around) (f : Frame) (cs : List flat.Caller) (c : Place W)
    (t : ℕ) (x : Operand) (y z rest : source.Code) (h : Held plan link table sees context total g world (at (source.Match t form.Present x y z rest) ks f cs) c top) where
  abbrev F : Called W → flat.Did → Type 0
  F before d = Follows plan link table sees context pages m host told fell prints_of unit_steps total roof below before c.left top c.store.world d

  abbrev one : ℕ
  one = first_word h.here

  abbrev a : op.Operand
  a = place plan link h.here 0 x

  abbrev N : Code
  N = emit plan link h.here z

  abbrev Y : Code
  Y = emit plan link h.here y

  abbrev C : Code
  C = emit plan link h.here rest

  abbrev reads : Code → Code
  reads more = low.Set one (Convert Wrap a) (low.Set (suc t) (Load load.I64 (Local one) 0) more)

  abbrev tail : Code
  tail = low.Set one (IsZero I64 a) (low.If (Local one) N (reads Y) C)

  -- the same operand after the test
  kept : (locals : List ℕ) (v : ℕ) → value_of a (slice_set locals one v) ≡ value_of a locals
  kept locals v = place_between plan link context.globals sees h.here (length f.seen) 0 x locals one v (omega arith) (omega arith) h.fits.1.0.0

  abbrev choice : Bool → Code
  choice true = N
  choice false = reads Y

  chooses : (b : Bool) (v k : ℕ) (locals : List ℕ) → v ≡ flag b
      → closes pages m host c (onward (if_zero v (run pages m (calls pages m host c) (reads Y) (record { left = k; store = c.store; locals = locals })) (run pages m (calls pages m host c) N (record { left = k; store = c.store; locals = locals }))) (run pages m (calls pages m host c) C))
      ≡ closes pages m host c (onward (run pages m (calls pages m host c) (choice b) (record { left = k; store = c.store; locals = locals })) (run pages m (calls pages m host c) C))
  chooses true v k locals e = ap (λ v. closes pages m host c (onward (if_zero v (run pages m (calls pages m host c) (reads Y) (record { left = k; store = c.store; locals = locals })) (run pages m (calls pages m host c) N (record { left = k; store = c.store; locals = locals }))) (run pages m (calls pages m host c) C))) e
  chooses false v k locals e = ap (λ v. closes pages m host c (onward (if_zero v (run pages m (calls pages m host c) (reads Y) (record { left = k; store = c.store; locals = locals })) (run pages m (calls pages m host c) N (record { left = k; store = c.store; locals = locals }))) (run pages m (calls pages m host c) C))) e

  -- The operand stands ready and was tested.
  pub record Tested (b : Bool) : Type 0 where
    pub locals : List ℕ
    pub cost : ℕ
    pub rest' : ℕ
    pub few : cost ≤ 12
    pub some : 1 ≤ cost
    pub count : c.left ≡ cost + rest'
    pub frame : FrameHeld g c.store.memory f h.here locals
    pub rep : Rep g c.store.memory (value_of a locals) (value context.globals f x)
    pub same : places.rest_of pages m host c ≡ closes pages m host c (onward (run pages m (calls pages m host c) (choice b) (record { left = rest'; store = c.store; locals = locals })) (run pages m (calls pages m host c) C))

  -- the rest of the execution
  abbrev before : Called W
  before = places.rest_of pages m host c

  abbrev R : Type 0
  R = Ready plan link table sees context pages m host told fell prints_of out unit_steps total roof world g top (source.Match t form.Present x y z rest) ks f cs c h (x ∷ []) tail

  tail_short : (k : ℕ) (locals : List ℕ) → k < 5 → run pages m (calls pages m host c) tail (record { left = k; store = c.store; locals = locals }) ≡ Breaks trap.Steps c.store
  tail_short zero locals lt = operand_none a c.store locals _
  tail_short (suc zero) locals lt = operand_is a 0 c.store locals _
  tail_short (suc (suc zero)) locals lt = operand_is a 1 c.store locals _
  tail_short (suc (suc (suc zero))) locals lt = operand_is a 2 c.store locals _
  tail_short (suc (suc (suc (suc zero)))) locals lt = operand_is a 3 c.store locals _
  tail_short (suc (suc (suc (suc (suc k))))) locals lt = absurd (omega arith)

  too_short : (r : R) (k : ℕ) → r.rest ≡ k → k < 5 → IsShort prints_of before c.left 96 c.store.world
  too_short r k rest_is lt =
      closed_short prints_of pages m host c before (run pages m (calls pages m host c) tail (record { left = k; store = c.store; locals = r.locals })) c.left 96 c.store.world
      (r.same ∙ ap (λ left. closes pages m host c (run pages m (calls pages m host c) tail (record { left = left; store = c.store; locals = r.locals }))) rest_is)
      (let e = r.count in let l = r.few in omega (arith, e, l, rest_is, lt)) (out_now prints_of _ c.store (tail_short k r.locals lt))

  looked : (b : Bool) → ((w : ℕ) → Rep g c.store.memory w (value context.globals f x) → equals_zero I64 w ≡ flag b) → (r : R) (k : ℕ) → r.rest ≡ k → Tested b ⊎ IsShort prints_of before c.left 96 c.store.world
  looked b test r zero rest_is = inr (too_short r 0 rest_is (omega arith))
  looked b test r (suc zero) rest_is = inr (too_short r 1 rest_is (omega arith))
  looked b test r (suc (suc zero)) rest_is = inr (too_short r 2 rest_is (omega arith))
  looked b test r (suc (suc (suc zero))) rest_is = inr (too_short r 3 rest_is (omega arith))
  looked b test r (suc (suc (suc (suc zero)))) rest_is = inr (too_short r 4 rest_is (omega arith))
  looked b test r (suc (suc (suc (suc (suc k))))) rest_is =
      let w : ℕ = value_of a r.locals in
      let v : ℕ = equals_zero I64 w in
      let last : List ℕ = slice_set r.locals one v in
      let at_one : slice_index last one ≡ flag b = local_here r.locals one v (let l = r.frame.long in omega (arith, l)) ∙ test w r.reps.0 in
      inl (record {
        locals = last;
        cost = r.cost + 5;
        rest' = k;
        few = let l = r.few in omega (arith, l);
        some = omega arith;
        count = let e = r.count in omega (arith, e, rest_is);
        frame = frame_behind g c.store.memory f h.here r.locals one v (omega arith) r.frame;
        rep = subst (λ w. Rep g c.store.memory w (value context.globals f x)) (sym (kept r.locals v)) r.reps.0;
        same = r.same
            ∙ ap (λ left. closes pages m host c (run pages m (calls pages m host c) tail (record { left = left; store = c.store; locals = r.locals }))) rest_is
            ∙ ap (closes pages m host c) (operand_is a (suc (suc (suc (suc k)))) c.store r.locals (λ s x. tick s (λ s. tick s (λ s. run pages m (calls pages m host c) (low.If (Local one) N (reads Y) C) (with_local s one (equals_zero I64 x))))))
            ∙ chooses b (slice_index last one) k last at_one;
      })

  tested : (b : Bool) → ((w : ℕ) → Rep g c.store.memory w (value context.globals f x) → equals_zero I64 w ≡ flag b) → Tested b ⊎ IsShort prints_of before c.left 96 c.store.world
  tested b test =
      either (ready plan link table sees context pages m host told fell prints_of out unit_steps total roof world g top (source.Match t form.Present x y z rest) ks f cs c h (x ∷ []) tail h.code h.fits.1)
      (λ r. looked b test r r.rest refl) (λ short. inr (short_on prints_of before c.left 7 96 c.store.world c.store.world (omega arith) (shows_same prints_of c.store.world) short))

  abbrev Read : Value → At W → Type 0
  Read u to = (to.spent ≤ 6) × (1 ≤ to.spent) × (to.store ≡ c.store) × FrameHeld g c.store.memory (put f t u) h.here to.locals

  -- what is inside comes into its slot
  read : (u : Value) (locals : List ℕ) → FrameHeld g c.store.memory f h.here locals → Filled g c.store.memory (value_of a locals) u → Goes pages m (calls pages m host c) (reads Stop) (Read u) (record { spent = 0; store = c.store; locals = locals })
  read u locals frame filled =
      let i : ℕ = filled.i in
      let low_i : 8 * i < 2 ^ 32 = address_low plan g world c.store top h.heap i (fixed_read plan g world c.store top h.heap i filled.inside.fixed).0 in
      let w : ℕ = low I32 (value_of a locals) in
      let w_is : w ≡ 8 * i = ap (low I32) filled.word_is ∙ low_is (8 * i) low_i in
      let middle : List ℕ = slice_set locals one w in
      let frame_middle : FrameHeld g c.store.memory f h.here middle = frame_behind g c.store.memory f h.here locals one w (omega arith) frame in
      let at_one : slice_index middle one ≡ 8 * i = local_here locals one w (let l = frame.long in omega (arith, l)) ∙ w_is in
      let address : low I32 (slice_index middle one) + 0 ≡ 8 * i = ap (λ n. low I32 n + 0) at_one ∙ ap (λ n. n + 0) (low_is (8 * i) low_i) ∙ omega arith in
      straight pages m (calls pages m host c) no_calls (λ f store args q d. absurd d) (reads Stop) (Read u) (record { spent = 0; store = c.store; locals = locals })
      (on_ok _ _ _ (word_at c.store.memory i) (ap (λ n. loads c.store.memory load.I64 n) address ∙ (fixed_read plan g world c.store top h.heap i filled.inside.fixed).1.load)
      (omega arith, omega arith, refl, frame_slot g c.store.memory f h.here middle t (word_at c.store.memory i) u h.fits.0 filled.inside.rep frame_middle))

  short : IsShort prints_of before c.left 96 c.store.world → Lacks plan link table sees context pages m host told fell prints_of unit_steps total roof before c.left top 1 c.store.world
  short k = inl (short_on prints_of before c.left 96 ((own_steps + unit_steps) * 1) c.store.world c.store.world (are_paid 96 unit_steps 1 (omega arith) (omega arith)) (shows_same prints_of c.store.world) k)

  pub match_matches : F before (matched world t y z rest ks f cs (opened form.Present (value context.globals f x)))
  match_matches =
      by_option (λ o. F before (matched world t y z rest ks f cs o)) (value context.globals f x) tt
      (λ u is levels over.
      either (tested false (λ w rep. let o = filled_option g c.store.memory w u (subst (λ v. Means g c.store.memory w v) is rep.means) in some_test w o.i o.word_is o.some rep.small))
      (λ k.
      let go = read u k.locals k.frame (filled_option g c.store.memory (value_of a k.locals) u (subst (λ v. Means g c.store.memory (value_of a k.locals) v) is k.rep.means)) in
      let few : go.cost ≤ 6 = let e = go.total in let l = go.holds.0 in omega (arith, e, l) in
      either (goes_or pages m host told fell prints_of out c.deep c.room (reads Stop) Y (record { spent = 0; store = c.store; locals = k.locals }) (Read u) go k.rest')
      (λ n.
      inl (record {
        to = moved pages m host c Y n.0 c.store go.to.locals (After C ∷ c.around);
        ghost = g;
        end = top;
        held = opened_held plan link table sees context pages m host total world g top ks f cs c t form.Present x y z rest h (put f t u) y n.0 go.to.locals (let e = k.count in let q = n.1 in omega (arith, e, q)) refl refl h.fits.2 go.holds.3;
        turn = Usual;
        same = k.same ∙ ap (λ o. closes pages m host c (onward o (run pages m (calls pages m host c) C))) (go.by Y k.rest' n.0 n.1)
            ∙ ap (λ store. closes pages m host c (onward (run pages m (calls pages m host c) Y (record { left = n.0; store = store; locals = go.to.locals })) (run pages m (calls pages m host c) C))) go.holds.2;
        steps = k.cost + go.cost;
        count = let e = k.count in let q = n.1 in omega (arith, e, q);
        some = let l = k.some in omega (arith, l);
        few = are_paid (k.cost + go.cost) unit_steps 1 (omega arith) (let l = k.few in omega (arith, l, few));
        bytes = omega arith;
        shown = refl;
      }))
      (λ n.
      inr (short (closed_short prints_of pages m host c before (onward (run pages m (calls pages m host c) (reads Y) (record { left = k.rest'; store = c.store; locals = k.locals })) (run pages m (calls pages m host c) C)) c.left 96 c.store.world k.same
      (let e = k.count in let l = k.few in let lt = n.0 in omega (arith, e, l, lt, few))
      (record { store = n.1.store; is = ap (λ o. onward o (run pages m (calls pages m host c) C)) n.1.is; part = subst (λ (store : Store W). ShowsMore prints_of n.1.store.world store.world) go.holds.2 n.1.part })))))
      (λ k. inr (short k)))
      (λ is levels over.
      either (tested true (λ w rep. zero_test w (subst (λ v. Means g c.store.memory w v) is rep.means)))
      (λ k.
      inl (record {
        to = moved pages m host c N k.rest' c.store k.locals (After C ∷ c.around);
        ghost = g;
        end = top;
        held = opened_held plan link table sees context pages m host total world g top ks f cs c t form.Present x y z rest h f z k.rest' k.locals (let e = k.count in omega (arith, e)) refl refl h.fits.3 k.frame;
        turn = Usual;
        same = k.same;
        steps = k.cost;
        count = k.count;
        some = k.some;
        few = are_paid k.cost unit_steps 1 (omega arith) (let l = k.few in omega (arith, l));
        bytes = omega arith;
        shown = refl;
      }))
      (λ k. inr (short k)))
