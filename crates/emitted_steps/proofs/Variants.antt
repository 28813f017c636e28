-- Variants, by their tags.
use Rattle.std.proofs.Common.{◌≡◌, ◌⊎◌, inl, inr, ℕ, zero, suc, ◌+◌, ◌*◌, ◌<◌, ◌≤◌, ◌^◌, List, [], ◌∷◌, Bool, true, false, cond, nat_eq, Option, refl, sym, ap, ◌∙◌, subst, arith}
use Rattle.std.specs.Prelude.{slice_index, slice_set, pos}
use Rattle.std.specs.Str.{bytes_eq}
use Rattle.std.proofs.lemmas.Slice.Eq.{bytes_eq-Decides}
use Rattle.std.proofs.Math.Nat.{mod-lt}
use Rattle.mo_types.specs.Label.{label_id, weighted}
use Rattle.mo_values.specs.Shapes.{Bytes, Leaf, Present, Tuple, Array, Object, Tag, Error, Cell, Future, Made, Function, NoShape, AShape}
use Rattle.wasm_tree.specs.declared.trap.Trap.TheVariants as trap
use Rattle.wasm_tree.specs.declared.types.ValueType.TheVariants.{I32, I64}
use Rattle.wasm_tree.specs.declared.op.Comparison.TheVariants.{Eq}
use Rattle.wasm_tree.specs.declared.op.Conversion.TheVariants.{Wrap}
use Rattle.wasm_tree.specs.declared.op.LoadKind.TheVariants as load
use Rattle.wasm_tree.specs.Numeric.{low, flag, compare}
use Rattle.wasm_tree.specs.Exec.{Host, Store, if_zero}
use Rattle.core_ir.specs.declared.primitive.Constructor.TheVariants as form
use Rattle.core_ir.specs.declared.code.Operand.{Operand}
use Rattle.core_ir.specs.Openings.{Opened, Inside, Otherwise, NotOne, variant_opened, opened}
use Rattle.core_ir.specs.Values.{Value}
use Rattle.core_ir.specs.Worlds.{World, Context}
use Rattle.core_ir.specs.Code as source
use Rattle.core_ir.specs.CodeMachine as flat
use Rattle.core_ir.specs.CodeMachine.{Frame, at, put, value, matched}
use Rattle.low_ir.specs.declared.op.Operand as op
use Rattle.low_ir.specs.declared.op.Operand.TheVariants.{Local, Long}
use Rattle.low_ir.specs.declared.op.Operation.TheVariants.{Compare, Convert, Load}
use Rattle.low_ir.specs.Tree as low
use Rattle.low_ir.specs.Tree.{Code, Stop, Module}
use Rattle.low_ir.specs.Meaning.{Called, Breaks, onward, run}
use Rattle.low_rules.specs.Rule.{At, value_of, loads}
use Rattle.low_rules.proofs.Steps.{on_ok, low_is}
use Rattle.code_sequences.specs.Laws.{Goes}
use Rattle.code_sequences.proofs.Prefix.{straight}
use Rattle.code_sequences.specs.Places.{After, Place, closes}
use Rattle.code_sequences.specs.Places as places
use Rattle.heap_layout.specs.Words.{word_at}
use Rattle.heap_layout.specs.Ghosts.{Ghost, Fixed}
use Rattle.heap_layout.specs.Means.{Means, ValueAt}
use Rattle.heap_layout.specs.Heaps.{Plan}
use Rattle.flat_emission.specs.Emission.{Linkage, emit, place, first_word, second_word, value_word}
use Rattle.emitted_steps.specs.States.{FrameHeld, Held}
use Rattle.emitted_steps.specs.Shortage.{ShowsMore, RunsOut, IsShort, StepsRunOut}
use Rattle.emitted_steps.specs.Steps.{Usual, Lacks, own_steps}
use Rattle.emitted_steps.proofs.Short.{either, shows_same, short_on, closed_short, out_now, goes_or}
use Rattle.emitted_steps.specs.Laws.{TagTold}
use Rattle.emitted_steps.proofs.Frames.{local_here, local_other, frame_behind, frame_slot, same_number, equal_number}
use Rattle.emitted_steps.proofs.Operands.{no_calls, fixed_read, address_low, wide_is}
use Rattle.emitted_steps.proofs.Control.{calls, moved, Follows, are_paid}
use Rattle.emitted_steps.proofs.Ready.{Ready, ready}
use Rattle.emitted_steps.proofs.Opened.{opened_held}

-- A variant is the address of its tag's number, and of what is inside behind that.
record Labelled (g : Ghost) (memory : List ℕ) (w : ℕ) (k : Bytes) (v : Value) : Type 0 where
  i : ℕ
  word_is : w ≡ 8 * i
  fixed : g.own i ≡ Fixed
  tag : word_at memory i ≡ label_id k
  inside : ValueAt g memory (i + 1) v

labelled : (g : Ghost) (memory : List ℕ) (w : ℕ) (k : Bytes) (v : Value) → Means g memory w (Made (Tag k) (AShape v NoShape)) → Labelled g memory w k v
labelled g memory w k v h =
    let i : ℕ = h.0 in
    let e : i + 0 ≡ i = omega arith in
    record {
      i = i;
      word_is = h.1;
      fixed = subst (λ j. g.own j ≡ Fixed) e h.3.0;
      tag = subst (λ j. word_at memory j ≡ label_id k) e h.3.1;
      inside = record { fixed = h.4.0; rep = record { small = h.4.1; means = h.4.2 } };
    }

module _ (B : Opened → Type 0) (l : Bytes) where
  by_variant : (v : Value) → B NotOne → ((k : Bytes) (u : Value) → v ≡ Made (Tag k) (AShape u NoShape) → B (cond (bytes_eq l k) (Inside u) Otherwise)) → B (variant_opened l v)
  by_variant (Made (Tag k) (AShape u NoShape)) o go = go k u refl
  by_variant (Made (Tag k) (AShape u (AShape w vs))) o go = o
  by_variant (Made (Tag k) NoShape) o go = o
  by_variant (Made (Leaf p) inside) o go = o
  by_variant (Made Present inside) o go = o
  by_variant (Made Tuple inside) o go = o
  by_variant (Made Array inside) o go = o
  by_variant (Made (Object ls) inside) o go = o
  by_variant (Made (Error a t) inside) o go = o
  by_variant (Made (Cell a) inside) o go = o
  by_variant (Made (Future a) inside) o go = o
  by_variant (Function h) o go = o

  by_tag : (k : Bytes) (u : Value) → (l ≡ k → B (Inside u)) → ((l ≡ k → ⊥) → B Otherwise) → B (cond (bytes_eq l k) (Inside u) Otherwise)
  by_tag k u same other = by (bytes_eq l k) refl
    where
      by : (t : Bool) → bytes_eq l k ≡ t → B (cond t (Inside u) Otherwise)
      by true e = same ((bytes_eq-Decides l k).0 e)
      by false e = other (λ q. let r : true ≡ false = sym ((bytes_eq-Decides l k).1 q) ∙ e in absurd (cc r))

label_small : (k : Bytes) → label_id k < 2 ^ 32
label_small k = mod-lt (weighted k) (omega arith)

-- the test of a tag's number
told_same : (w : ℕ) (l k : Bytes) → w ≡ label_id k → l ≡ k → compare I64 Eq w (label_id l) ≡ flag true
told_same w l k e same =
    ap (λ x. compare I64 Eq x (label_id l)) (e ∙ ap label_id (sym same)) ∙ ap flag (equal_number (low I64 (label_id l)))

told_other : (w : ℕ) (l k : Bytes) → w ≡ label_id k → (label_id l ≡ label_id k → ⊥) → compare I64 Eq w (label_id l) ≡ flag false
told_other w l k e other =
    let a = label_small l in
    let b = label_small k in
    ap (λ x. compare I64 Eq x (label_id l)) e
    ∙ (λ i. flag (nat_eq (wide_is (label_id k) (omega (arith, b)) i) (wide_is (label_id l) (omega (arith, a)) i)))
    ∙ ap flag (differ (nat_eq (label_id k) (label_id l)) refl)
  where
    differ : (t : Bool) → nat_eq (label_id k) (label_id l) ≡ t → t ≡ false
    differ true e = absurd (other (sym (same_number (label_id k) (label_id l) e)))
    differ false e = refl

module _ (plan : Plan) (link : Linkage) (table : List (Option ℕ)) (sees : ℕ → ℕ) (context : Context) {W : Type 0} (pages : ℕ) (m : Module) (host : Host W) (told fell : W → Bytes → W) (prints_of : W → List Bytes) (out : StepsRunOut pages m host told fell prints_of) (unit_steps total roof below : ℕ)
    (world : World) (g : Ghost) (top : ℕ) (ks : List flat.Around) (f : Frame) (cs : List flat.Caller) (c : Place W)
    (t : ℕ) (l : Bytes) (x : Operand) (y z rest : source.Code) (h : Held plan link table sees context total g world (at (source.Match t (form.Tagged l) x y z rest) ks f cs) c top) where
  abbrev F : Called W → flat.Did → Type 0
  F before d = Follows plan link table sees context pages m host told fell prints_of unit_steps total roof below before c.left top c.store.world d

  abbrev one : ℕ
  one = first_word h.here

  abbrev two : ℕ
  two = second_word h.here

  abbrev three : ℕ
  three = value_word h.here

  abbrev a : op.Operand
  a = place plan link h.here 0 x

  abbrev N : Code
  N = emit plan link h.here z

  abbrev Y : Code
  Y = emit plan link h.here y

  abbrev C : Code
  C = emit plan link h.here rest

  abbrev reads : Code → Code
  reads more = low.Set (suc t) (Load load.I64 (Local one) 8) more

  abbrev looks : Code → Code
  looks more = low.Set one (Convert Wrap a) (low.Set three (Load load.I64 (Local one) 0) (low.Set two (Compare I64 Eq (Local three) (Long (pos (label_id l)))) more))

  abbrev parts : Code
  parts = low.If (Local two) (reads Y) N C

  abbrev choice : Bool → Code
  choice true = reads Y
  choice false = N

  chooses : (b : Bool) (v k : ℕ) (locals : List ℕ) → v ≡ flag b
      → closes pages m host c (onward (if_zero v (run pages m (calls pages m host c) N (record { left = k; store = c.store; locals = locals })) (run pages m (calls pages m host c) (reads Y) (record { left = k; store = c.store; locals = locals }))) (run pages m (calls pages m host c) C))
      ≡ closes pages m host c (onward (run pages m (calls pages m host c) (choice b) (record { left = k; store = c.store; locals = locals })) (run pages m (calls pages m host c) C))
  chooses true v k locals e = ap (λ v. closes pages m host c (onward (if_zero v (run pages m (calls pages m host c) N (record { left = k; store = c.store; locals = locals })) (run pages m (calls pages m host c) (reads Y) (record { left = k; store = c.store; locals = locals }))) (run pages m (calls pages m host c) C))) e
  chooses false v k locals e = ap (λ v. closes pages m host c (onward (if_zero v (run pages m (calls pages m host c) N (record { left = k; store = c.store; locals = locals })) (run pages m (calls pages m host c) (reads Y) (record { left = k; store = c.store; locals = locals }))) (run pages m (calls pages m host c) C))) e

  module _ (k : Bytes) (u : Value) (v_is : value context.globals f x ≡ Made (Tag k) (AShape u NoShape)) where
    abbrev Looked : ℕ → Bool → At W → Type 0
    Looked i b to = (to.spent ≤ 10) × (to.store ≡ c.store) × FrameHeld g c.store.memory f h.here to.locals × (slice_index to.locals one ≡ 8 * i) × (slice_index to.locals two ≡ flag b)

    -- the tag's number is compared
    looked : (b : Bool) (locals : List ℕ) → FrameHeld g c.store.memory f h.here locals → (o : Labelled g c.store.memory (value_of a locals) k u) → ((w : ℕ) → w ≡ label_id k → compare I64 Eq w (label_id l) ≡ flag b)
        → Goes pages m (calls pages m host c) (looks Stop) (Looked o.i b) (record { spent = 0; store = c.store; locals = locals })
    looked b locals frame o test =
        let i : ℕ = o.i in
        let low_i : 8 * i < 2 ^ 32 = address_low plan g world c.store top h.heap i (fixed_read plan g world c.store top h.heap i o.fixed).0 in
        let w : ℕ = low I32 (value_of a locals) in
        let w_is : w ≡ 8 * i = ap (low I32) o.word_is ∙ low_is (8 * i) low_i in
        let first : List ℕ = slice_set locals one w in
        let frame_first : FrameHeld g c.store.memory f h.here first = frame_behind g c.store.memory f h.here locals one w (omega arith) frame in
        let at_one : slice_index first one ≡ 8 * i = local_here locals one w (let s = frame.long in omega (arith, s)) ∙ w_is in
        let address : low I32 (slice_index first one) + 0 ≡ 8 * i = ap (λ n. low I32 n + 0) at_one ∙ ap (λ n. n + 0) (low_is (8 * i) low_i) ∙ omega arith in
        let tag : ℕ = word_at c.store.memory i in
        let second : List ℕ = slice_set first three tag in
        let frame_second : FrameHeld g c.store.memory f h.here second = frame_behind g c.store.memory f h.here first three tag (omega arith) frame_first in
        let at_three : slice_index second three ≡ tag = local_here first three tag (let s = frame_first.long in omega (arith, s)) in
        let answer : ℕ = compare I64 Eq (slice_index second three) (label_id l) in
        let third : List ℕ = slice_set second two answer in
        straight pages m (calls pages m host c) no_calls (λ f store args q d. absurd d) (looks Stop) (Looked i b) (record { spent = 0; store = c.store; locals = locals })
        (on_ok _ _ _ tag (ap (λ n. loads c.store.memory load.I64 n) address ∙ (fixed_read plan g world c.store top h.heap i o.fixed).1.load) (
          omega arith,
          refl,
          frame_behind g c.store.memory f h.here second two answer (omega arith) frame_second,
          local_other second two one answer (λ e. omega (arith, e)) ∙ local_other first three one tag (λ e. omega (arith, e)) ∙ at_one,
          local_here second two answer (let s = frame_second.long in omega (arith, s)) ∙ test (slice_index second three) (at_three ∙ o.tag),
        ))

    -- The operand stands ready and was looked at.
    record Tested (b : Bool) : Type 0 where
      locals : List ℕ
      cost : ℕ
      rest' : ℕ
      few : cost ≤ 19
      some : 1 ≤ cost
      count : c.left ≡ cost + rest'
      frame : FrameHeld g c.store.memory f h.here locals
      i : ℕ
      at_one : slice_index locals one ≡ 8 * i
      inside : ValueAt g c.store.memory (i + 1) u
      same : places.rest_of pages m host c ≡ closes pages m host c (onward (run pages m (calls pages m host c) (choice b) (record { left = rest'; store = c.store; locals = locals })) (run pages m (calls pages m host c) C))

    -- the rest of the execution
    abbrev before : Called W
    before = places.rest_of pages m host c

    abbrev R : Type 0
    R = Ready plan link table sees context pages m host told fell prints_of out unit_steps total roof world g top (source.Match t (form.Tagged l) x y z rest) ks f cs c h (x ∷ []) (looks parts)

    same_parts : (b : Bool) (r : R) (o : Labelled g c.store.memory (value_of a r.locals) k u) (go : Goes pages m (calls pages m host c) (looks Stop) (Looked o.i b) (record { spent = 0; store = c.store; locals = r.locals })) (n : ℕ) → r.rest ≡ go.cost + n
        → before ≡ closes pages m host c (run pages m (calls pages m host c) parts (record { left = n; store = c.store; locals = go.to.locals }))
    same_parts b r o go n rest_is =
        r.same ∙ ap (closes pages m host c) (go.by parts r.rest n rest_is) ∙ ap (λ store. closes pages m host c (run pages m (calls pages m host c) parts (record { left = n; store = store; locals = go.to.locals }))) go.holds.1

    parts_short : (b : Bool) (r : R) (o : Labelled g c.store.memory (value_of a r.locals) k u) (go : Goes pages m (calls pages m host c) (looks Stop) (Looked o.i b) (record { spent = 0; store = c.store; locals = r.locals })) (n : ℕ) → r.rest ≡ go.cost + n → n < 2
        → run pages m (calls pages m host c) parts (record { left = n; store = c.store; locals = go.to.locals }) ≡ Breaks trap.Steps c.store → IsShort prints_of before c.left 96 c.store.world
    parts_short b r o go n rest_is lt breaks =
        closed_short prints_of pages m host c before (run pages m (calls pages m host c) parts (record { left = n; store = c.store; locals = go.to.locals })) c.left 96 c.store.world (same_parts b r o go n rest_is)
        (let e = r.count in let s = r.few in let q = go.total in let p = go.holds.0 in omega (arith, e, s, q, p, rest_is, lt)) (out_now prints_of _ c.store breaks)

    -- the two parts are chosen from
    chosen_from : (b : Bool) (r : R) (o : Labelled g c.store.memory (value_of a r.locals) k u) (go : Goes pages m (calls pages m host c) (looks Stop) (Looked o.i b) (record { spent = 0; store = c.store; locals = r.locals })) (n : ℕ) → r.rest ≡ go.cost + n → Tested b ⊎ IsShort prints_of before c.left 96 c.store.world
    chosen_from b r o go zero rest_is = inr (parts_short b r o go 0 rest_is (omega arith) refl)
    chosen_from b r o go (suc zero) rest_is = inr (parts_short b r o go 1 rest_is (omega arith) refl)
    chosen_from b r o go (suc (suc n)) rest_is =
        let few : go.cost ≤ 10 = let e = go.total in let s = go.holds.0 in omega (arith, e, s) in
        inl (record {
          locals = go.to.locals;
          cost = r.cost + go.cost + 2;
          rest' = n;
          few = let s = r.few in omega (arith, s, few);
          some = omega arith;
          count = let e = r.count in omega (arith, e, rest_is);
          frame = go.holds.2;
          i = o.i;
          at_one = go.holds.3;
          inside = o.inside;
          same = same_parts b r o go (suc (suc n)) rest_is ∙ chooses b (slice_index go.to.locals two) n go.to.locals go.holds.4;
        })

    tested : (b : Bool) → ((w : ℕ) → w ≡ label_id k → compare I64 Eq w (label_id l) ≡ flag b) → Tested b ⊎ IsShort prints_of before c.left 96 c.store.world
    tested b test =
        either (ready plan link table sees context pages m host told fell prints_of out unit_steps total roof world g top (source.Match t (form.Tagged l) x y z rest) ks f cs c h (x ∷ []) (looks parts) h.code h.fits.1)
        (λ r.
        let o = labelled g c.store.memory (value_of a r.locals) k u (subst (λ v. Means g c.store.memory (value_of a r.locals) v) v_is r.reps.0.means) in
        let go = looked b r.locals r.frame o test in
        let few : go.cost ≤ 10 = let e = go.total in let s = go.holds.0 in omega (arith, e, s) in
        either (goes_or pages m host told fell prints_of out c.deep c.room (looks Stop) parts (record { spent = 0; store = c.store; locals = r.locals }) (Looked o.i b) go r.rest)
        (λ n. chosen_from b r o go n.0 n.1)
        (λ n.
        inr (closed_short prints_of pages m host c before (run pages m (calls pages m host c) (looks parts) (record { left = r.rest; store = c.store; locals = r.locals })) c.left 96 c.store.world r.same
        (let e = r.count in let s = r.few in let lt = n.0 in omega (arith, e, s, few, lt)) (subst (λ (store : Store W). RunsOut prints_of (run pages m (calls pages m host c) (looks parts) (record { left = r.rest; store = c.store; locals = r.locals })) store.world) go.holds.1 n.1))))
        (λ short. inr (short_on prints_of before c.left 7 96 c.store.world c.store.world (omega arith) (shows_same prints_of c.store.world) short))

    abbrev Read : At W → Type 0
    Read to = (to.spent ≤ 3) × (1 ≤ to.spent) × (to.store ≡ c.store) × FrameHeld g c.store.memory (put f t u) h.here to.locals

    -- what is inside comes into its slot
    read : (b : Bool) (k : Tested b) → Goes pages m (calls pages m host c) (reads Stop) Read (record { spent = 0; store = c.store; locals = k.locals })
    read b k =
        let j : ℕ = k.i + 1 in
        let low_j : 8 * j < 2 ^ 32 = address_low plan g world c.store top h.heap j (fixed_read plan g world c.store top h.heap j k.inside.fixed).0 in
        let address : low I32 (slice_index k.locals one) + 8 ≡ 8 * j = ap (λ n. low I32 n + 8) k.at_one ∙ ap (λ n. n + 8) (low_is (8 * k.i) (omega (arith, low_j))) ∙ omega arith in
        straight pages m (calls pages m host c) no_calls (λ f store args q d. absurd d) (reads Stop) Read (record { spent = 0; store = c.store; locals = k.locals })
        (on_ok _ _ _ (word_at c.store.memory j) (ap (λ n. loads c.store.memory load.I64 n) address ∙ (fixed_read plan g world c.store top h.heap j k.inside.fixed).1.load)
        (omega arith, omega arith, refl, frame_slot g c.store.memory f h.here k.locals t (word_at c.store.memory j) u h.fits.0 k.inside.rep k.frame))

    short : IsShort prints_of before c.left 96 c.store.world → Lacks plan link table sees context pages m host told fell prints_of unit_steps total roof before c.left top 1 c.store.world
    short k = inl (short_on prints_of before c.left 96 ((own_steps + unit_steps) * 1) c.store.world c.store.world (are_paid 96 unit_steps 1 (omega arith) (omega arith)) (shows_same prints_of c.store.world) k)

    matches : (label_id l ≡ label_id k → l ≡ k) → F before (matched world t y z rest ks f cs (cond (bytes_eq l k) (Inside u) Otherwise))
    matches asked =
        by_tag (λ o. F before (matched world t y z rest ks f cs o)) l k u
        (λ same levels over.
        either (tested true (λ w e. told_same w l k e same))
        (λ k'.
        let go = read true k' in
        let few : go.cost ≤ 3 = let e = go.total in let s = go.holds.0 in omega (arith, e, s) in
        either (goes_or pages m host told fell prints_of out c.deep c.room (reads Stop) Y (record { spent = 0; store = c.store; locals = k'.locals }) Read go k'.rest')
        (λ n.
        inl (record {
          to = moved pages m host c Y n.0 c.store go.to.locals (After C ∷ c.around);
          ghost = g;
          end = top;
          held = opened_held plan link table sees context pages m host total world g top ks f cs c t (form.Tagged l) x y z rest h (put f t u) y n.0 go.to.locals (let e = k'.count in let q = n.1 in omega (arith, e, q)) refl refl h.fits.2 go.holds.3;
          turn = Usual;
          same = k'.same ∙ ap (λ o. closes pages m host c (onward o (run pages m (calls pages m host c) C))) (go.by Y k'.rest' n.0 n.1)
              ∙ ap (λ store. closes pages m host c (onward (run pages m (calls pages m host c) Y (record { left = n.0; store = store; locals = go.to.locals })) (run pages m (calls pages m host c) C))) go.holds.2;
          steps = k'.cost + go.cost;
          count = let e = k'.count in let q = n.1 in omega (arith, e, q);
          some = let s = k'.some in omega (arith, s);
          few = are_paid (k'.cost + go.cost) unit_steps 1 (omega arith) (let s = k'.few in omega (arith, s, few));
          bytes = omega arith;
          shown = refl;
        }))
        (λ n.
        inr (short (closed_short prints_of pages m host c before (onward (run pages m (calls pages m host c) (reads Y) (record { left = k'.rest'; store = c.store; locals = k'.locals })) (run pages m (calls pages m host c) C)) c.left 96 c.store.world k'.same
        (let e = k'.count in let s = k'.few in let lt = n.0 in omega (arith, e, s, lt, few))
        (record { store = n.1.store; is = ap (λ o. onward o (run pages m (calls pages m host c) C)) n.1.is; part = subst (λ (store : Store W). ShowsMore prints_of n.1.store.world store.world) go.holds.2 n.1.part })))))
        (λ k. inr (short k)))
        (λ other levels over.
        either (tested false (λ w e. told_other w l k e (λ q. other (asked q))))
        (λ k'.
        inl (record {
          to = moved pages m host c N k'.rest' c.store k'.locals (After C ∷ c.around);
          ghost = g;
          end = top;
          held = opened_held plan link table sees context pages m host total world g top ks f cs c t (form.Tagged l) x y z rest h f z k'.rest' k'.locals (let e = k'.count in omega (arith, e)) refl refl h.fits.3 k'.frame;
          turn = Usual;
          same = k'.same;
          steps = k'.cost;
          count = k'.count;
          some = k'.some;
          few = are_paid k'.cost unit_steps 1 (omega arith) (let s = k'.few in omega (arith, s));
          bytes = omega arith;
          shown = refl;
        }))
        (λ k. inr (short k)))

  pub variant_matches : TagTold l (value context.globals f x) → F (places.rest_of pages m host c) (matched world t y z rest ks f cs (opened (form.Tagged l) (value context.globals f x)))
  variant_matches asked =
      by_variant (λ o. F (places.rest_of pages m host c) (matched world t y z rest ks f cs o)) l (value context.globals f x) tt
      (λ k u is. matches k u is (subst (λ v. TagTold l v) is asked))
