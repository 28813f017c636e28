-- A primitive into a slot, and one whose truth is tested.
use Rattle.std.proofs.Common.{◌≡◌, ◌⊎◌, inl, inr, ℕ, suc, ◌+◌, ◌*◌, ◌<◌, ◌≤◌, List, [], ◌∷◌, length, Bool, true, Option, Some, None, refl, sym, ap, ◌∙◌, subst, arith}
use Rattle.mo_types.specs.declared.datum.Datum.TheVariants as part
use Rattle.mo_values.specs.Shapes.{Bytes, Leaf, Present, Tuple, Array, Object, Tag, Error, Cell, Future, Made, Function, NoShape, AShape, unit}
use Rattle.mo_values.specs.Views.{flag_of}
use Rattle.wasm_tree.specs.declared.trap.Trap.{Trap}
use Rattle.wasm_tree.specs.Numeric.{flag}
use Rattle.wasm_tree.specs.Exec.{Host, Store}
use Rattle.core_ir.specs.declared.primitive.Primitive.{Primitive}
use Rattle.core_ir.specs.declared.code.Operand.{Operand}
use Rattle.core_ir.specs.Choices.{on_some}
use Rattle.core_ir.specs.Primitives.{Done, Gives, Prints, Fails, Stuck, perform}
use Rattle.core_ir.specs.Values.{Value}
use Rattle.core_ir.specs.Worlds.{World, Context, with_store}
use Rattle.core_ir.specs.Code as source
use Rattle.core_ir.specs.CodeMachine as flat
use Rattle.core_ir.specs.CodeMachine.{Within, Frame, at, values, put, operated, chosen, depth_of}
use Rattle.core_ir.specs.Executions as flat_steps
use Rattle.low_ir.specs.Tree.{Code, Module}
use Rattle.low_ir.specs.Meaning.{Called, Fell, Breaks, run}
use Rattle.low_ir.specs.Frames.{finish}
use Rattle.low_rules.specs.Rule.{At}
use Rattle.code_sequences.specs.Laws.{Goes, Falls}
use Rattle.code_sequences.specs.Sequences.{seq}
use Rattle.code_sequences.specs.Places.{Around, After, Place, whole, closes}
use Rattle.code_sequences.specs.Places as places
use Rattle.heap_layout.specs.Ghosts.{Ghost}
use Rattle.heap_layout.specs.Means.{Means}
use Rattle.heap_layout.specs.Heaps.{Plan}
use Rattle.heap_layout.specs.Table.{cost_of, words_for_levels, words_beside}
use Rattle.flat_emission.specs.Emission.{Linkage, Here, emit, first_word, value_word, local_count}
use Rattle.flat_emission.specs.Emission as emission
use Rattle.emitted_steps.specs.Operations.{Light, AllKeep, ComesAs, FallsAs, Worked, Fallen, Wanting, told_all}
use Rattle.emitted_steps.specs.States.{Fit, Fits, Arounds, FrameHeld, Held, words_for}
use Rattle.emitted_steps.specs.Shortage.{ShowsMore, RunsOut, IsShort, StepsRunOut}
use Rattle.emitted_steps.specs.Steps.{Usual, Trapped, Lacks, own_steps}
use Rattle.emitted_steps.proofs.Frames.{frame_put, frame_later, names_later, arounds_fewer, callers_later}
use Rattle.emitted_steps.proofs.Operands.{values_length, places_clear}
use Rattle.emitted_steps.proofs.Control.{calls, Follows, resume_breaks, whole_fell}
use Rattle.emitted_steps.proofs.Short.{either, shows_same, shows_told, short_on, closed_short, goes_or, falls_or}
use Rattle.emitted_steps.proofs.Ready.{Ready, ready}

module _ {A X : Type 0} (B : A → Type 0) (none : A) where
  pub by_some : (o : Option X) (F : X → A) → B none → ((x : X) → o ≡ Some x → B (F x)) → B (on_some none o F)
  by_some None F n k = n
  by_some (Some x) F n k = k x refl

-- the word of a truth value
pub flag_word : (g : Ghost) (memory : List ℕ) (w : ℕ) (v : Value) (b : Bool) → flag_of v ≡ Some b → Means g memory w v → w ≡ flag b
flag_word g memory w (Made (Leaf (part.Flag a)) NoShape) b e h = h ∙ ap (λ o. flag (or_true o)) e
  where
    or_true : Option Bool → Bool
    or_true None = true
    or_true (Some b) = b
flag_word g memory w (Made (Leaf part.Null) NoShape) b e h = absurd (cc e)
flag_word g memory w (Made (Leaf (part.Number n)) NoShape) b e h = absurd (cc e)
flag_word g memory w (Made (Leaf (part.Char n)) NoShape) b e h = absurd (cc e)
flag_word g memory w (Made (Leaf (part.Text n)) NoShape) b e h = absurd (cc e)
flag_word g memory w (Made (Leaf (part.Blob n)) NoShape) b e h = absurd (cc e)
flag_word g memory w (Made (Leaf (part.Principal n)) NoShape) b e h = absurd (cc e)
flag_word g memory w (Made (Leaf (part.Actor n)) NoShape) b e h = absurd (cc e)
flag_word g memory w (Made (Leaf (part.Method p n)) NoShape) b e h = absurd (cc e)
flag_word g memory w (Made (Leaf part.Present) NoShape) b e h = absurd h
flag_word g memory w (Made (Leaf (part.Many n)) NoShape) b e h = absurd h
flag_word g memory w (Made (Leaf (part.Record n)) NoShape) b e h = absurd h
flag_word g memory w (Made (Leaf (part.Tag n)) NoShape) b e h = absurd h
flag_word g memory w (Made (Leaf p) (AShape v vs)) b e h = absurd h
flag_word g memory w (Made Present inside) b e h = absurd (cc e)
flag_word g memory w (Made Tuple inside) b e h = absurd (cc e)
flag_word g memory w (Made Array inside) b e h = absurd (cc e)
flag_word g memory w (Made (Object ls) inside) b e h = absurd (cc e)
flag_word g memory w (Made (Tag l) inside) b e h = absurd (cc e)
flag_word g memory w (Made (Error a t) inside) b e h = absurd (cc e)
flag_word g memory w (Made (Cell n) inside) b e h = absurd (cc e)
flag_word g memory w (Made (Future n) inside) b e h = absurd (cc e)
flag_word g memory w (Function k) b e h = absurd (cc e)

pub spread : (unit weight : ℕ) → (own_steps + unit) * weight ≡ 96 * weight + unit * weight
spread unit weight = omega arith

module _ (plan : Plan) (link : Linkage) (table : List (Option ℕ)) (sees : ℕ → ℕ) (context : Context) {W : Type 0} (pages : ℕ) (m : Module) (host : Host W) (told fell : W → Bytes → W) (prints_of : W → List Bytes) (out : StepsRunOut pages m host told fell prints_of) (unit_steps total roof : ℕ)
    (keep : AllKeep plan told fell unit_steps context.head pages roof m host link) (world : World) (g : Ghost) (top : ℕ) (ks : List flat.Around) (f : Frame) (cs : List flat.Caller) (c : Place W) where
  abbrev below : ℕ
  below = 16 + f.body.nodes + depth_of cs

  abbrev IsHeld : source.Code → Type 0
  IsHeld code = Held plan link table sees context total g world (at code ks f cs) c top

  abbrev F : Called W → flat.Did → Type 0
  F before d = Follows plan link table sees context pages m host told fell prints_of unit_steps total roof below before c.left top c.store.world d

  module _ (code : source.Code) (h : IsHeld code) (t : ℕ) (p : Primitive) (xs : List Operand) (more : Code) (code_is : c.code ≡ emission.operated plan link h.here t p xs more) (fits : Fit plan link context.globals sees h.here (length f.seen) xs) (t_fits : t < local_count h.here) where
    abbrev pub done : Done
    done = perform context.head world.store p (values context.globals f xs)

    abbrev op : Code
    op = link.operation p t (first_word h.here) (emission.places plan link h.here 0 xs)

    abbrev R : Type 0
    R = Ready plan link table sees context pages m host told fell prints_of out unit_steps total roof world g top code ks f cs c h xs (seq op more)

    abbrev start : List ℕ → At W
    start locals = record { spent = 0; store = c.store; locals = locals }

    abbrev P : List ℕ → Done → At W → Type 0
    P locals d to = ComesAs plan told fell unit_steps g world c.store locals top t (first_word h.here) d to

    abbrev Q : List ℕ → Done → Trap → ℕ → Store W → Type 0
    Q locals d cause spent store = FallsAs plan told fell unit_steps g world c.store locals top t (first_word h.here) roof d cause spent store

    abbrev pub Outcome : List ℕ → Done → Type 0
    Outcome locals d = Goes pages m (calls pages m host c) op (P locals d) (start locals) ⊎ Falls pages m (calls pages m host c) op (Q locals d) (start locals)

    abbrev pub Admitted : Done → Type 0
    Admitted d = words_for below + words_for_levels (cost_of context.head plan host d).levels ≤ total

    -- the rest of the execution
    abbrev pub rest_is : Called W
    rest_is = places.rest_of pages m host c

    pub readied : R ⊎ IsShort prints_of rest_is c.left (7 * length xs) c.store.world
    readied = ready plan link table sees context pages m host told fell prints_of out unit_steps total roof world g top code ks f cs c h xs (seq op more) code_is fits

    pub outcome : link.treated p ≡ true → (d : Done) → done ≡ d → (d ≡ Stuck → ⊥) → Light (length xs) d → Admitted d → (r : R) → Outcome r.locals d
    outcome treated d is there light admitted r =
        subst (Outcome r.locals) is
        (keep c.deep c.room p treated t (first_word h.here) (emission.places plan link h.here 0 xs) g world c.store top h.heap r.locals (values context.globals f xs) (let l = r.frame.long in omega (arith, l, t_fits)) (let l = r.frame.long in omega (arith, l))
        (places_clear plan link context.globals sees h.here (length f.seen) 0 xs fits.0) r.reps (λ k. there (sym is ∙ k))
        (subst (λ d. Light (length (values context.globals f xs)) d) (sym is) (subst (λ n. Light n d) (sym (values_length context.globals f xs)) light))
        (let a = h.deep in let b = old in omega (arith, a, b)) (let a = h.room in let b = old in omega (arith, a, b)))
      where
        old : Admitted done
        old = subst Admitted (sym is) admitted

    -- The primitive has done its work.
    pub record Went (weight : ℕ) (prints : List Bytes) (v : Value) (after : List Value) (locals : List ℕ) : Type 0 where
      pub to : At W
      pub work : Worked plan told fell unit_steps g world c.store locals top t (first_word h.here) weight prints v after to
      pub frame : FrameHeld g c.store.memory f h.here locals
      pub cost : ℕ
      pub rest : ℕ
      pub count : c.left ≡ cost + rest
      pub some : 1 ≤ cost
      pub few : cost ≤ 7 * length xs + unit_steps * weight
      pub same : places.rest_of pages m host c ≡ closes pages m host c (run pages m (calls pages m host c) more (record { left = rest; store = to.store; locals = to.locals }))

    abbrev pub Lack : ℕ → W → Type 0
    Lack weight w = Lacks plan link table sees context pages m host told fell prints_of unit_steps total roof rest_is c.left top weight w

    abbrev Paid : ℕ → Type 0
    Paid weight = (1 ≤ weight) × (length xs ≤ 4 * weight)

    enough : (weight : ℕ) → Paid weight → 7 * length xs + unit_steps * weight ≤ (own_steps + unit_steps) * weight
    enough weight light = let s = spread unit_steps weight in let a = light.0 in let b = light.1 in omega (arith, a, b, s)

    -- too few steps for the operands
    pub unready : (weight : ℕ) → Paid weight → (w : W) → ShowsMore prints_of c.store.world w → IsShort prints_of rest_is c.left (7 * length xs) c.store.world → Lack weight w
    unready weight light w p short = inl (short_on prints_of rest_is c.left (7 * length xs) ((own_steps + unit_steps) * weight) c.store.world w (let e = enough weight light in omega (arith, e)) p short)

    -- for the primitive
    unfinished : (weight : ℕ) → Paid weight → (r : R) (cost : ℕ) → cost ≤ unit_steps * weight → (w w' : W) → ShowsMore prints_of w w'
        → (r.rest < cost) × RunsOut prints_of (run pages m (calls pages m host c) (seq op more) (record { left = r.rest; store = c.store; locals = r.locals })) w → Lack weight w'
    unfinished weight light r cost few w w' p k =
        inl (short_on prints_of rest_is c.left ((own_steps + unit_steps) * weight) ((own_steps + unit_steps) * weight) w w' (omega arith) p
        (closed_short prints_of pages m host c rest_is (run pages m (calls pages m host c) (seq op more) (record { left = r.rest; store = c.store; locals = r.locals })) c.left ((own_steps + unit_steps) * weight) w r.same
        (let a = r.few in let b = r.count in let lt = k.0 in let e = enough weight light in omega (arith, a, b, lt, few, e)) k.1))

    fell_same : (r : R) (cause : Trap) (store : Store W) → run pages m (calls pages m host c) (seq op more) (record { left = r.rest; store = c.store; locals = r.locals }) ≡ Breaks cause store → rest_is ≡ Fell cause store
    fell_same r cause store same =
        r.same ∙ ap (closes pages m host c) same
        ∙ ap (λ o. whole pages m host c.callers (finish c.type o)) (resume_breaks pages m host (calls pages m host c) c.around cause store)
        ∙ whole_fell pages m host c.callers cause store

    -- for want of memory
    wanting : (weight : ℕ) (r : R) (cause : Trap) (spent : ℕ) (store : Store W) (w : W) → ShowsMore prints_of c.store.world w → run pages m (calls pages m host c) (seq op more) (record { left = r.rest; store = c.store; locals = r.locals }) ≡ Breaks cause store
        → Wanting plan told fell unit_steps c.store roof top weight cause spent store → Lack weight w
    wanting weight r cause spent store w p same k =
        inr (record { store = store; same = fell_same r cause store same ∙ ap (λ cause. Fell cause store) k.cause_is; refused = k.refused; lacks = k.lacks; part = subst (λ u. ShowsMore prints_of u w) (sym k.world) p })

    abbrev Wants : ℕ → Trap → ℕ → Store W → Type 0
    Wants weight cause spent store = Wanting plan told fell unit_steps c.store roof top weight cause spent store

    pub went : (weight : ℕ) (prints : List Bytes) (v : Value) (after : List Value) → Paid weight → (r : R)
        → Goes pages m (calls pages m host c) op (λ to. Worked plan told fell unit_steps g world c.store r.locals top t (first_word h.here) weight prints v after to) (start r.locals) ⊎ Falls pages m (calls pages m host c) op (Wants weight) (start r.locals)
        → Went weight prints v after r.locals ⊎ Lack weight (told_all told c.store.world prints)
    went weight prints v after light r (inl go) =
        let few : go.cost ≤ unit_steps * weight = let a = go.total in let b = go.holds.few in omega (arith, a, b) in
        either (goes_or pages m host told fell prints_of out c.deep c.room op more (start r.locals) (λ to. Worked plan told fell unit_steps g world c.store r.locals top t (first_word h.here) weight prints v after to) go r.rest)
        (λ k.
        inl (record {
          to = go.to;
          work = go.holds;
          frame = r.frame;
          cost = r.cost + go.cost;
          rest = k.0;
          count = let b = r.count in let e = k.1 in omega (arith, b, e);
          some = let a = go.total in let b = go.holds.some in omega (arith, a, b);
          few = let a = r.few in omega (arith, a, few);
          same = r.same ∙ ap (closes pages m host c) (go.by more r.rest k.0 k.1);
        }))
        (λ k. inr (unfinished weight light r go.cost few go.to.store.world (told_all told c.store.world prints) (subst (λ w. ShowsMore prints_of go.to.store.world w) go.holds.shown (shows_same prints_of go.to.store.world)) k))
    went weight prints v after light r (inr x) =
        let few : x.cost ≤ unit_steps * weight = let l = x.holds.few in omega (arith, l) in
        let p : ShowsMore prints_of c.store.world (told_all told c.store.world prints) = shows_told pages m host told fell prints_of out c.store.world prints in
        either (falls_or pages m host told fell prints_of out c.deep c.room op more (start r.locals) (Wants weight) x r.rest)
        (λ same. inr (wanting weight r x.cause (0 + x.cost) x.store (told_all told c.store.world prints) p same x.holds))
        (λ k. inr (unfinished weight light r x.cost few x.store.world (told_all told c.store.world prints) (subst (λ u. ShowsMore prints_of u (told_all told c.store.world prints)) (sym x.holds.world) p) k))

    abbrev Ended : ℕ → Bytes → Trap → ℕ → Store W → Type 0
    Ended weight text cause spent store = Fallen plan told fell unit_steps c.store weight text cause spent store ⊎ Wants weight cause spent store

    -- It has trapped.
    pub trapped : (weight : ℕ) (text : Bytes) → Paid weight → (r : R) → Falls pages m (calls pages m host c) op (Ended weight text) (start r.locals)
        → Trapped plan link table sees context pages m host told fell prints_of unit_steps total roof rest_is c.store.world text ⊎ Lack weight (fell c.store.world text)
    trapped weight text light r x =
        either (falls_or pages m host told fell prints_of out c.deep c.room op more (start r.locals) (Ended weight text) x r.rest)
        (λ same.
        either x.holds
        (λ k. inl (record { store = x.store; same = fell_same r x.cause x.store same ∙ ap (λ cause. Fell cause x.store) k.cause_is; world = k.world }))
        (λ k. inr (wanting weight r x.cause (0 + x.cost) x.store (fell c.store.world text) (out.fails c.store.world text) same k)))
        (λ q.
        either x.holds
        (λ k.
        inr (unfinished weight light r x.cost (let l = k.few in omega (arith, l)) x.store.world (fell c.store.world text) (subst (λ w. ShowsMore prints_of x.store.world w) k.world (shows_same prints_of x.store.world)) q))
        (λ k.
        inr (unfinished weight light r x.cost (let l = k.few in omega (arith, l)) x.store.world (fell c.store.world text) (subst (λ u. ShowsMore prints_of u (fell c.store.world text)) (sym k.world) (out.fails c.store.world text)) q)))

    -- The frame of the function, with its code and constructs, after the work.
    abbrev pub worked_held : (weight : ℕ) (prints : List Bytes) (v : Value) (after : List Value) (locals : List ℕ) (w : Went weight prints v after locals) (code' : source.Code) (ks' : List flat.Around) (f' : Frame) (n : ℕ) (locals' : List ℕ) (around : List Around) → n ≤ c.left
        → Fits plan link context.globals sees h.here (length f.seen) code' → f'.seen ≡ f.seen → f'.body ≡ f.body → FrameHeld w.work.ghost w.to.store.memory f' h.here locals' → Arounds plan link context.globals sees h.here (length f.seen) n ks' around
        → Held plan link table sees context total w.work.ghost (with_store world after) (at code' ks' f' cs) (record { code = emit plan link h.here code'; left = n; store = w.to.store; locals = locals'; around = around; deep = c.deep; room = c.room; type = c.type; callers = c.callers }) w.work.end
    worked_held weight prints v after locals w code' ks' f' n locals' around le fits' seen body frame arounds = record {
      here = h.here;
      code = refl;
      fits = subst (λ l. Fits plan link context.globals sees h.here (length l) code') (sym seen) fits';
      frame = frame;
      around = subst (λ l. Arounds plan link context.globals sees h.here (length l) n ks' around) (sym seen) arounds;
      callers = callers_later plan link context.globals sees g w.work.ghost c.store.memory w.to.store.memory w.work.later total c.left n cs c.callers le h.callers;
      heap = w.work.heap;
      names = names_later g w.work.ghost c.store.memory w.to.store.memory w.work.later link.names link.hidden context.globals h.names;
      groups = h.groups;
      table_is = w.work.table ∙ h.table_is;
      results = h.results;
      room = subst (λ x. total + words_beside ≤ c.room + words_for (16 + x.nodes + depth_of cs)) (sym body) h.room;
      deep = subst (λ x. total + words_beside ≤ c.deep + words_for (16 + x.nodes + depth_of cs)) (sym body) h.deep;
      within = subst (λ x. words_for (16 + x.nodes + depth_of cs) ≤ total) (sym body) h.within;
    }

  -- Let.
  module _ (t : ℕ) (p : Primitive) (xs : List Operand) (rest : source.Code) (h : IsHeld (source.Let t p xs rest)) where
    abbrev slot_fits : suc t < local_count h.here
    slot_fits = let l = h.fits.0 in omega (arith, l)

    -- its code
    abbrev does_it : Code
    does_it = link.operation p (suc t) (first_word h.here) (emission.places plan link h.here 0 xs)

    abbrev R1 : Type 0
    R1 = Ready plan link table sees context pages m host told fell prints_of out unit_steps total roof world g top (source.Let t p xs rest) ks f cs c h xs (seq does_it (emit plan link h.here rest))

    let_goes : (weight : ℕ) (levels : ℕ) (prints : List Bytes) (v : Value) (after : List Value) → (1 ≤ weight) × (length xs ≤ 4 * weight)
        → ((r : R1) → words_for below + words_for_levels levels ≤ total
        → Goes pages m (calls pages m host c) does_it (λ to. Worked plan told fell unit_steps g world c.store r.locals top (suc t) (first_word h.here) weight prints v after to) (record { spent = 0; store = c.store; locals = r.locals })
        ⊎ Falls pages m (calls pages m host c) does_it (λ cause spent store. Wanting plan told fell unit_steps c.store roof top weight cause spent store) (record { spent = 0; store = c.store; locals = r.locals }))
        → F (places.rest_of pages m host c) (flat_steps.Go (record { weight = weight; levels = levels }) prints (with_store world after) (at rest ks (put f t v) cs))
    let_goes weight levels prints v after light does = λ deep over.
        let s = spread unit_steps weight in
        let one : 1 ≤ weight = light.0 in
        let few : length xs ≤ 4 * weight = light.1 in
        either (readied (source.Let t p xs rest) h (suc t) p xs (emit plan link h.here rest) h.code h.fits.1 slot_fits)
        (λ r.
        either (went (source.Let t p xs rest) h (suc t) p xs (emit plan link h.here rest) h.code h.fits.1 slot_fits weight prints v after light r (does r deep))
        (λ w.
        inl (record {
          to = record { code = emit plan link h.here rest; left = w.rest; store = w.to.store; locals = w.to.locals; around = c.around; deep = c.deep; room = c.room; type = c.type; callers = c.callers };
          ghost = w.work.ghost;
          end = w.work.end;
          held = worked_held (source.Let t p xs rest) h (suc t) p xs (emit plan link h.here rest) h.code h.fits.1 slot_fits weight prints v after r.locals w rest ks (put f t v) w.rest w.to.locals c.around (let k = w.count in omega (arith, k)) h.fits.2 refl refl
              (frame_put w.work.ghost w.to.store.memory f h.here r.locals w.to.locals t w.work.word v w.work.put.long w.work.put.word_is w.work.put.others w.work.rep (frame_later g w.work.ghost c.store.memory w.to.store.memory w.work.later f h.here r.locals w.frame))
              (arounds_fewer plan link context.globals sees h.here (length f.seen) c.left w.rest ks c.around (let k = w.count in omega (arith, k)) h.around);
          turn = Usual;
          same = w.same;
          steps = w.cost;
          count = w.count;
          some = w.some;
          few = let a = w.few in omega (arith, a, few, one, s);
          bytes = w.work.bytes;
          shown = w.work.shown;
        }))
        (λ lack. inr lack))
        (λ short. inr (unready (source.Let t p xs rest) h (suc t) p xs (emit plan link h.here rest) h.code h.fits.1 slot_fits weight light (told_all told c.store.world prints) (shows_told pages m host told fell prints_of out c.store.world prints) short))

    abbrev D : Done
    D = done (source.Let t p xs rest) h (suc t) p xs (emit plan link h.here rest) h.code h.fits.1 slot_fits

    ends : (d : Done) → D ≡ d → (d ≡ Stuck → ⊥) → Light (length xs) d → (r : R1) → Admitted (source.Let t p xs rest) h (suc t) p xs (emit plan link h.here rest) h.code h.fits.1 slot_fits d → Outcome (source.Let t p xs rest) h (suc t) p xs (emit plan link h.here rest) h.code h.fits.1 slot_fits r.locals d
    ends d is there light r a = outcome (source.Let t p xs rest) h (suc t) p xs (emit plan link h.here rest) h.code h.fits.1 slot_fits h.fits.3 d is there light a r

    pub let_matches : (d : Done) → D ≡ d → Light (length xs) d → F (places.rest_of pages m host c) (operated world t rest ks f cs d)
    let_matches Stuck is light = tt
    let_matches (Gives cost v after) is light = let_goes cost.weight cost.levels [] v after light (λ r a. ends (Gives cost v after) is (λ e. absurd (cc e)) light r a)
    let_matches (Prints cost text) is light = let_goes cost.weight cost.levels (text ∷ []) unit world.store light (λ r a. ends (Prints cost text) is (λ e. absurd (cc e)) light r a)
    let_matches (Fails cost text) is light = λ deep.
        either (readied (source.Let t p xs rest) h (suc t) p xs (emit plan link h.here rest) h.code h.fits.1 slot_fits)
        (λ r. by r (ends (Fails cost text) is (λ e. absurd (cc e)) light r deep))
        (λ short. inr (unready (source.Let t p xs rest) h (suc t) p xs (emit plan link h.here rest) h.code h.fits.1 slot_fits cost.weight light (fell c.store.world text) (out.fails c.store.world text) short))
      where
        by : (r : R1) → Outcome (source.Let t p xs rest) h (suc t) p xs (emit plan link h.here rest) h.code h.fits.1 slot_fits r.locals (Fails cost text)
            → Trapped plan link table sees context pages m host told fell prints_of unit_steps total roof (places.rest_of pages m host c) c.store.world text
            ⊎ Lack (source.Let t p xs rest) h (suc t) p xs (emit plan link h.here rest) h.code h.fits.1 slot_fits cost.weight (fell c.store.world text)
        by r (inl go) = absurd go.holds
        by r (inr x) = trapped (source.Let t p xs rest) h (suc t) p xs (emit plan link h.here rest) h.code h.fits.1 slot_fits cost.weight text light r x
