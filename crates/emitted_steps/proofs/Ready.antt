-- Operands stand ready, and a value goes back.
use Rattle.std.proofs.Common.{◌≡◌, ◌⊎◌, inl, inr, ℕ, zero, suc, ◌+◌, ◌*◌, ◌<◌, ◌≤◌, List, [], ◌∷◌, length, Option, Some, refl, sym, ap, ◌∙◌, subst, arith}
use Rattle.mo_values.specs.Shapes.{Bytes}
use Rattle.wasm_tree.specs.declared.trap.Trap.TheVariants as trap
use Rattle.wasm_tree.specs.Exec as exec
use Rattle.wasm_tree.specs.Exec.{Host, Store}
use Rattle.core_ir.specs.declared.code.Operand.{Operand}
use Rattle.core_ir.specs.Values.{Value}
use Rattle.core_ir.specs.Worlds.{World, Context}
use Rattle.core_ir.specs.Code as source
use Rattle.core_ir.specs.Code.{CodeProgram}
use Rattle.core_ir.specs.CodeMachine as flat
use Rattle.core_ir.specs.CodeMachine.{Frame, at, value, values, back, depth_of}
use Rattle.low_ir.specs.declared.op.Operand as op
use Rattle.low_ir.specs.declared.op.Operand.TheVariants.{Local, Word, Long}
use Rattle.low_ir.specs.Tree as low
use Rattle.low_ir.specs.Tree.{Code, Stop, Module}
use Rattle.low_ir.specs.Meaning.{Called, Gave, Outcome, Gives, Breaks, tick, operand, run}
use Rattle.low_ir.specs.Frames.{kept, finish}
use Rattle.low_rules.specs.Rule.{At, value_of}
use Rattle.code_sequences.specs.Laws.{Goes}
use Rattle.code_sequences.proofs.Prefix.{straight}
use Rattle.code_sequences.specs.Places.{Place, calls_of, whole, closes}
use Rattle.code_sequences.specs.Places as places
use Rattle.heap_layout.specs.Ghosts.{Ghost}
use Rattle.heap_layout.specs.Means.{Reps}
use Rattle.heap_layout.specs.Heaps.{Plan}
use Rattle.flat_emission.specs.Emission.{Linkage, Here, place, fetches, readied}
use Rattle.flat_emission.specs.Emission as emission
use Rattle.emitted_steps.specs.Operations.{given}
use Rattle.emitted_steps.specs.States.{Fit, FrameHeld, Held}
use Rattle.emitted_steps.proofs.Operands.{no_calls, fixed_words, constant_rep, fetched}
use Rattle.emitted_steps.specs.Shortage.{RunsOut, IsShort, StepsRunOut}
use Rattle.emitted_steps.proofs.Control.{Follows, calls, resume_gives, are_paid, lacks, returned, back_short}
use Rattle.emitted_steps.proofs.Short.{shows_same, short_on, closed_short, out_now, goes_or}

pub operand_is : {W : Type 0} (a : op.Operand) (n : ℕ) (store : Store W) (locals : List ℕ) (next : exec.State W → ℕ → Outcome W) → operand a (record { left = suc n; store = store; locals = locals }) next ≡ next (record { left = n; store = store; locals = locals }) (value_of a locals)
operand_is (Local x) n store locals next = refl
operand_is (Word z) n store locals next = refl
operand_is (Long z) n store locals next = refl

module _ (plan : Plan) (link : Linkage) (table : List (Option ℕ)) (sees : ℕ → ℕ) (context : Context) {W : Type 0} (pages : ℕ) (m : Module) (host : Host W) (told fell : W → Bytes → W) (prints_of : W → List Bytes) (out : StepsRunOut pages m host told fell prints_of) (unit_steps total roof : ℕ)
    (world : World) (g : Ghost) (top : ℕ) (code : source.Code) (ks : List flat.Around) (f : Frame) (cs : List flat.Caller) (c : Place W) (h : Held plan link table sees context total g world (at code ks f cs) c top) where
  -- Locals in which the operands stand, after so many steps.
  pub record Ready (xs : List Operand) (more : Code) : Type 0 where
    pub locals : List ℕ
    pub cost : ℕ
    pub rest : ℕ
    pub few : cost ≤ 7 * length xs
    pub count : c.left ≡ cost + rest
    pub frame : FrameHeld g c.store.memory f h.here locals
    pub reps : Reps g c.store.memory (given (emission.places plan link h.here 0 xs) locals) (values context.globals f xs)
    pub same : places.rest_of pages m host c ≡ closes pages m host c (run pages m (calls pages m host c) more (record { left = rest; store = c.store; locals = locals }))

  abbrev Fetched : List Operand → At W → Type 0
  Fetched xs to =
      (to.spent ≤ 7 * length xs) × (to.store ≡ c.store) × FrameHeld g c.store.memory f h.here to.locals × Reps g c.store.memory (given (emission.places plan link h.here 0 xs) to.locals) (values context.globals f xs)

  -- the operands stand ready, or there are too few steps for that
  pub ready : (xs : List Operand) (more : Code) → c.code ≡ readied plan link h.here xs more → Fit plan link context.globals sees h.here (length f.seen) xs → Ready xs more ⊎ IsShort prints_of (places.rest_of pages m host c) c.left (7 * length xs) c.store.world
  ready xs more code_is fits =
      let from : At W = record { spent = 0; store = c.store; locals = c.locals } in
      let go : Goes pages m (calls pages m host c) (fetches plan link h.here 0 xs Stop) (Fetched xs) from =
      straight pages m (calls pages m host c) no_calls (λ f store args q d. absurd d) (fetches plan link h.here 0 xs Stop) (Fetched xs) from
      (fetched plan link pages m no_calls context.globals sees g c.store (fixed_words plan g world c.store top h.heap) (constant_rep plan g world c.store top h.heap link.bytes_at) h.names f h.here 0 xs c.locals Stop _ 0 (omega (arith, fits.1)) fits.0 h.frame
      (λ spent locals le kept reps. (omega (arith, le), refl, kept.frame, reps))) in
      let few : go.cost ≤ 7 * length xs = let t = go.total in let s = go.holds.0 in omega (arith, t, s) in
      by go few (goes_or pages m host told fell prints_of out c.deep c.room (fetches plan link h.here 0 xs Stop) more from (Fetched xs) go c.left)
    where
      same_code : places.rest_of pages m host c ≡ closes pages m host c (run pages m (calls pages m host c) (readied plan link h.here xs more) (record { left = c.left; store = c.store; locals = c.locals }))
      same_code = ap (λ x. closes pages m host c (run pages m (calls pages m host c) x (record { left = c.left; store = c.store; locals = c.locals }))) code_is

      by : (go : Goes pages m (calls pages m host c) (fetches plan link h.here 0 xs Stop) (Fetched xs) (record { spent = 0; store = c.store; locals = c.locals })) → go.cost ≤ 7 * length xs
          → ((n : ℕ) × (c.left ≡ go.cost + n)) ⊎ ((c.left < go.cost) × RunsOut prints_of (run pages m (calls pages m host c) (readied plan link h.here xs more) (record { left = c.left; store = c.store; locals = c.locals })) go.to.store.world)
          → Ready xs more ⊎ IsShort prints_of (places.rest_of pages m host c) c.left (7 * length xs) c.store.world
      by go few (inl k) = inl (record {
        locals = go.to.locals;
        cost = go.cost;
        rest = k.0;
        few = few;
        count = k.1;
        frame = go.holds.2;
        reps = go.holds.3;
        same = same_code
            ∙ ap (closes pages m host c) (go.by more c.left k.0 k.1)
            ∙ ap (λ store. closes pages m host c (run pages m (calls pages m host c) more (record { left = k.0; store = store; locals = go.to.locals }))) go.holds.1;
      })
      by go few (inr k) =
          inr (closed_short prints_of pages m host c (places.rest_of pages m host c) (run pages m (calls pages m host c) (readied plan link h.here xs more) (record { left = c.left; store = c.store; locals = c.locals })) c.left (7 * length xs) c.store.world same_code (let lt = k.0 in omega (arith, lt, few))
          (subst (λ (store : Store W). RunsOut prints_of (run pages m (calls pages m host c) (readied plan link h.here xs more) (record { left = c.left; store = c.store; locals = c.locals })) store.world) go.holds.1 k.1))

-- ---- a value is returned

pub operand_none : {W : Type 0} (a : op.Operand) (store : Store W) (locals : List ℕ) (next : exec.State W → ℕ → Outcome W) → operand a (record { left = 0; store = store; locals = locals }) next ≡ Breaks trap.Steps store
operand_none (Local x) store locals next = refl
operand_none (Word z) store locals next = refl
operand_none (Long z) store locals next = refl

module _ (plan : Plan) (link : Linkage) (table : List (Option ℕ)) (sees : ℕ → ℕ) (context : Context) {W : Type 0} (pages : ℕ) (m : Module) (host : Host W) (told fell : W → Bytes → W) (prints_of : W → List Bytes) (out : StepsRunOut pages m host told fell prints_of) (unit_steps total roof below : ℕ)
    (world : World) (g : Ghost) (top : ℕ) (ks : List flat.Around) (f : Frame) (cs : List flat.Caller) (c : Place W) where
  abbrev F : Called W → CodeProgram → Value → Type 0
  F before program v = Follows plan link table sees context pages m host told fell prints_of unit_steps total roof below before c.left top c.store.world (back program context world v cs)

  module _ (program : CodeProgram) (x : Operand) (h : Held plan link table sees context total g world (at (source.Return x) ks f cs) c top) where
    abbrev p : op.Operand
    p = place plan link h.here 0 x

    abbrev v : Value
    v = value context.globals f x

    abbrev R : Type 0
    R = Ready plan link table sees context pages m host told fell prints_of out unit_steps total roof world g top (source.Return x) ks f cs c h (x ∷ []) (low.Return (Some p))

    returns_short : (r : R) (k : ℕ) → r.rest ≡ k → k ≤ 1 → run pages m (calls pages m host c) (low.Return (Some p)) (record { left = k; store = c.store; locals = r.locals }) ≡ Breaks trap.Steps c.store → F (places.rest_of pages m host c) program v
    returns_short r k rest_is le is =
        let few : r.cost ≤ 7 = let l = r.few in omega (arith, l) in
        back_short plan link table sees context pages m host told fell prints_of unit_steps total roof below program world g c.store.memory top c.left c.left v c.store.world (places.rest_of pages m host c) cs c.callers h.callers
        (closed_short prints_of pages m host c (places.rest_of pages m host c) (run pages m (calls pages m host c) (low.Return (Some p)) (record { left = k; store = c.store; locals = r.locals })) c.left _ c.store.world
        (r.same ∙ ap (λ left. closes pages m host c (run pages m (calls pages m host c) (low.Return (Some p)) (record { left = left; store = c.store; locals = r.locals }))) rest_is)
        (lacks 63 c.left unit_steps (let e = r.count in omega (arith, few, e, rest_is, le)) (omega arith)) (out_now prints_of _ c.store is))

    returns : (r : R) (k : ℕ) → r.rest ≡ k → F (places.rest_of pages m host c) program v
    returns r zero rest_is = returns_short r 0 rest_is (omega arith) (operand_none p c.store r.locals _)
    returns r (suc zero) rest_is = returns_short r 1 rest_is (omega arith) (operand_is p 0 c.store r.locals _)
    returns r (suc (suc n)) rest_is =
        let few : r.cost ≤ 7 = let l = r.few in omega (arith, l) in
        let w : ℕ = value_of p r.locals in
        let s : exec.State W = record { left = n; store = c.store; locals = r.locals } in
        let same : places.rest_of pages m host c ≡ whole pages m host c.callers (Gave n c.store (kept (length c.type.results) (Some w))) =
        r.same
        ∙ ap (λ left. closes pages m host c (run pages m (calls pages m host c) (low.Return (Some p)) (record { left = left; store = c.store; locals = r.locals }))) rest_is
        ∙ ap (closes pages m host c) (operand_is p (suc n) c.store r.locals (λ s v. tick s (λ s. Gives s (Some v))))
        ∙ ap (λ o. whole pages m host c.callers (finish c.type o)) (resume_gives pages m host (calls pages m host c) c.around s (Some w)) in
        subst (λ o. F o program v) (sym same)
        (returned plan link table sees context pages m host told fell prints_of unit_steps total roof below program world g top c.left n w f.body.nodes v c.store c.type cs c.callers (r.cost + 2) h.heap h.names h.groups h.table_is r.reps.0 h.results h.callers h.within
        (let k = r.count in omega (arith, k, rest_is)) (omega (arith, few)))

    pub return_matches : F (places.rest_of pages m host c) program v
    return_matches = by (ready plan link table sees context pages m host told fell prints_of out unit_steps total roof world g top (source.Return x) ks f cs c h (x ∷ []) (low.Return (Some p)) h.code h.fits)
      where
        by : R ⊎ IsShort prints_of (places.rest_of pages m host c) c.left 7 c.store.world → F (places.rest_of pages m host c) program v
        by (inl r) = returns r r.rest refl
        by (inr short) =
            back_short plan link table sees context pages m host told fell prints_of unit_steps total roof below program world g c.store.memory top c.left c.left v c.store.world (places.rest_of pages m host c) cs c.callers h.callers
            (short_on prints_of (places.rest_of pages m host c) c.left 7 _ c.store.world c.store.world (are_paid 7 unit_steps 1 (omega arith) (omega arith)) (shows_same prints_of c.store.world) short)
