-- Constructs, jumps, and what a call is followed by.
use Rattle.std.proofs.Common.{◌≡◌, inl, inr, ℕ, zero, suc, ◌+◌, ◌*◌, ◌<◌, ◌≤◌, List, [], ◌∷◌, length, Option, Some, None, refl, sym, ap, ◌∙◌, subst, arith}
use Rattle.std.specs.Prelude.{slice_set}
use Rattle.std.proofs.lemmas.List.{append-nil}
use Rattle.mo_values.specs.Shapes.{Bytes}
use Rattle.wasm_tree.specs.declared.trap.Trap.{Trap}
use Rattle.wasm_tree.specs.declared.trap.Trap.TheVariants as trap
use Rattle.wasm_tree.specs.declared.types.FunctionType.{FunctionType}
use Rattle.wasm_tree.specs.Exec as exec
use Rattle.wasm_tree.specs.Exec.{Host, Store, with_local}
use Rattle.core_ir.specs.Values.{Value}
use Rattle.core_ir.specs.Worlds.{World, Context}
use Rattle.core_ir.specs.Code as source
use Rattle.core_ir.specs.Code.{CodeProgram}
use Rattle.core_ir.specs.CodeMachine as flat
use Rattle.core_ir.specs.CodeMachine.{Within, Again, Frame, State, Did, at, branch, back, handed, put, depth_of}
use Rattle.low_ir.specs.Tree as low
use Rattle.low_ir.specs.Tree.{Code, Module}
use Rattle.low_ir.specs.Meaning.{Called, Gave, Fell, Calls, Jumps, Gives, Breaks, onward, turns, on_return, result_to, run}
use Rattle.low_ir.specs.Frames.{kept, finish}
use Rattle.heap_layout.specs.Ghosts.{Ghost}
use Rattle.heap_layout.specs.Means.{Rep}
use Rattle.heap_layout.specs.Heaps.{Plan}
use Rattle.heap_layout.proofs.Meanings.{same_later}
use Rattle.code_sequences.specs.Places.{Around, After, Turning, Caller, Place, calls_of, resume, whole, closes}
use Rattle.code_sequences.specs.Places as places
use Rattle.flat_emission.specs.Emission.{Linkage, emit, slot}
use Rattle.emitted_steps.specs.Operations.{HeapHeld}
use Rattle.emitted_steps.specs.States.{NamesAt, GroupsSee, Fits, Arounds, CallerHeld, Callers, Held, words_for}
use Rattle.emitted_steps.specs.Shortage.{IsShort}
use Rattle.emitted_steps.specs.Steps.{Turn, Usual, Anew, rest_of, Moves, Matches, steps_of, own_steps}
use Rattle.emitted_steps.proofs.Frames.{frame_slot, arounds_fewer, callers_later}

module _ {W : Type 0} (pages : ℕ) (m : Module) (host : Host W) where
  -- a place with other code, steps, store, locals and constructs around
  abbrev pub moved : Place W → Code → ℕ → Store W → List ℕ → List Around → Place W
  moved c code left store locals around = record { code = code; left = left; store = store; locals = locals; around = around; deep = c.deep; room = c.room; type = c.type; callers = c.callers }

  abbrev pub calls : Place W → Calls W
  calls c = calls_of pages m host c.deep c.room

  -- as the code and the steps are
  pub rest_is : (c : Place W) (code : Code) (left : ℕ) → c.code ≡ code → c.left ≡ left → places.rest_of pages m host c ≡ closes pages m host c (run pages m (calls c) code (record { left = left; store = c.store; locals = c.locals }))
  rest_is c code left e k = λ i. closes pages m host c (run pages m (calls c) (e i) (record { left = k i; store = c.store; locals = c.locals }))

  pub resume_gives : (calls : Calls W) (around : List Around) (s : exec.State W) (v : Option ℕ) → resume pages m host calls around (Gives s v) ≡ Gives s v
  resume_gives calls [] s v = refl
  resume_gives calls (After rest ∷ around) s v = resume_gives calls around s v
  resume_gives calls (Turning most body rest ∷ around) s v = resume_gives calls around s v

  pub resume_breaks : (calls : Calls W) (around : List Around) (cause : Trap) (store : Store W) → resume pages m host calls around (Breaks cause store) ≡ Breaks cause store
  resume_breaks calls [] cause store = refl
  resume_breaks calls (After rest ∷ around) cause store = resume_breaks calls around cause store
  resume_breaks calls (Turning most body rest ∷ around) cause store = resume_breaks calls around cause store

  pub whole_fell : (callers : List Caller) (cause : Trap) (store : Store W) → whole pages m host callers (Fell cause store) ≡ Fell cause store
  whole_fell [] cause store = refl
  whole_fell (c ∷ callers) cause store =
      ap (λ o. whole pages m host callers (finish c.type o)) (resume_breaks (calls_of pages m host c.deep c.room) c.around cause store) ∙ whole_fell callers cause store

-- steps of this kind are paid for
pub are_paid : (steps unit weight : ℕ) → 1 ≤ weight → steps ≤ 96 → steps ≤ (own_steps + unit) * weight
are_paid steps unit zero one few = absurd (omega arith)
are_paid steps unit (suc n) one few = let a : 0 ≤ unit * suc n = omega arith in let e : (96 + unit) * suc n ≡ 96 + (96 * n + unit * suc n) = omega arith in omega (arith, e, few)

-- and fewer steps than they take are fewer than are paid for
pub lacks : (steps left unit : ℕ) → left < suc steps → suc steps ≤ 96 → left < (own_steps + unit) * 1
lacks steps left unit lt few = let p = are_paid (suc steps) unit 1 (omega arith) few in omega (arith, lt, p)

module _ (plan : Plan) (link : Linkage) (table : List (Option ℕ)) (sees : ℕ → ℕ) (context : Context) {W : Type 0} (pages : ℕ) (m : Module) (host : Host W) (told fell : W → Bytes → W) (prints_of : W → List Bytes) (unit_steps total roof below : ℕ) where
  abbrev pub Follows : Called W → ℕ → ℕ → W → Did → Type 0
  Follows before left top w d = Matches plan link table sees context pages m host told fell prints_of unit_steps total roof before left top below w d

  abbrev pub IsHeld : Ghost → World → State → Place W → ℕ → Type 0
  IsHeld g world s c top = Held plan link table sees context total g world s c top

  abbrev pub Goes : Called W → ℕ → ℕ → W → ℕ → List Bytes → World → State → Type 0
  Goes before left top w weight prints world s = Moves plan link table sees context pages m host told fell prints_of unit_steps total roof before left top w weight prints world s

  module _ (world : World) (g : Ghost) (top : ℕ) (ks : List flat.Around) (f : Frame) (cs : List flat.Caller) (c : Place W) where
    -- the same frame and store, with other code and fewer steps
    abbrev pub again_held : (code : source.Code) (h : IsHeld g world (at code ks f cs) c top) (code' : source.Code) (ks' : List flat.Around) (left : ℕ) (ls : List Around) → left ≤ c.left → Fits plan link context.globals sees h.here (length f.seen) code'
        → Arounds plan link context.globals sees h.here (length f.seen) left ks' ls → IsHeld g world (at code' ks' f cs) (moved pages m host c (emit plan link h.here code') left c.store c.locals ls) top
    again_held code h code' ks' left ls le fits around = record {
      here = h.here;
      code = refl;
      fits = fits;
      frame = h.frame;
      around = around;
      callers = callers_later plan link context.globals sees g g c.store.memory c.store.memory (same_later g c.store.memory) total c.left left cs c.callers le h.callers;
      heap = h.heap;
      names = h.names;
      groups = h.groups;
      table_is = h.table_is;
      results = h.results;
      room = h.room;
      deep = h.deep;
      within = h.within;
    }

    -- A label is entered.
    pub label_moves : (b r : source.Code) → IsHeld g world (at (source.Label b r) ks f cs) c top → (n : ℕ) → c.left ≡ suc n → Goes (places.rest_of pages m host c) c.left top c.store.world 1 [] world (at b (Within r ∷ ks) f cs)
    label_moves b r h n e = record {
      to = moved pages m host c (emit plan link h.here b) n c.store c.locals (After (emit plan link h.here r) ∷ c.around);
      ghost = g;
      end = top;
      held = again_held (source.Label b r) h b (Within r ∷ ks) n (After (emit plan link h.here r) ∷ c.around) (omega (arith, e)) h.fits.0
          (refl, h.fits.1, arounds_fewer plan link context.globals sees h.here (length f.seen) c.left n ks c.around (omega (arith, e)) h.around);
      turn = Usual;
      same = rest_is pages m host c (low.Block (emit plan link h.here b) (emit plan link h.here r)) (suc n) h.code e;
      steps = 1;
      count = omega (arith, e);
      some = omega arith;
      few = are_paid 1 unit_steps 1 (omega arith) (omega arith);
      bytes = omega arith;
      shown = refl;
    }

    -- a turn of a loop, of so many that are left
    pub turn_moves : (b r : source.Code) (h : IsHeld g world (at (source.Loop b r) ks f cs) c top) (n most : ℕ) → c.left ≡ suc n → n < most
        → Goes (closes pages m host c (onward (turns (suc most) (run pages m (calls pages m host c) (emit plan link h.here b)) (record { left = c.left; store = c.store; locals = c.locals })) (run pages m (calls pages m host c) (emit plan link h.here r))))
        c.left top c.store.world 1 [] world (at b (Again b r ∷ ks) f cs)
    turn_moves b r h n most e lt = record {
      to = moved pages m host c (emit plan link h.here b) n c.store c.locals (Turning most (emit plan link h.here b) (emit plan link h.here r) ∷ c.around);
      ghost = g;
      end = top;
      held = again_held (source.Loop b r) h b (Again b r ∷ ks) n (Turning most (emit plan link h.here b) (emit plan link h.here r) ∷ c.around) (omega (arith, e)) h.fits.0
          (lt, refl, refl, h.fits.0, h.fits.1, arounds_fewer plan link context.globals sees h.here (length f.seen) c.left n ks c.around (omega (arith, e)) h.around);
      turn = Usual;
      same = λ i. closes pages m host c (onward (turns (suc most) (run pages m (calls pages m host c) (emit plan link h.here b)) (record { left = e i; store = c.store; locals = c.locals })) (run pages m (calls pages m host c) (emit plan link h.here r)));
      steps = 1;
      count = omega (arith, e);
      some = omega arith;
      few = are_paid 1 unit_steps 1 (omega arith) (omega arith);
      bytes = omega arith;
      shown = refl;
    }

    pub loop_moves : (b r : source.Code) (h : IsHeld g world (at (source.Loop b r) ks f cs) c top) (turn : Turn (source.Loop b r) c) (n : ℕ) → c.left ≡ suc n
        → Goes (rest_of plan link table sees context pages m host told fell prints_of unit_steps total roof h.here (source.Loop b r) c turn) c.left top c.store.world 1 [] world (at b (Again b r ∷ ks) f cs)
    loop_moves b r h Usual n e =
        let same : places.rest_of pages m host c ≡ closes pages m host c (onward (turns (suc (suc n)) (run pages m (calls pages m host c) (emit plan link h.here b)) (record { left = c.left; store = c.store; locals = c.locals })) (run pages m (calls pages m host c) (emit plan link h.here r))) =
        ap (λ code. closes pages m host c (run pages m (calls pages m host c) code (record { left = c.left; store = c.store; locals = c.locals }))) h.code
        ∙ ap (λ most. closes pages m host c (onward (turns (suc most) (run pages m (calls pages m host c) (emit plan link h.here b)) (record { left = c.left; store = c.store; locals = c.locals })) (run pages m (calls pages m host c) (emit plan link h.here r)))) e in
        subst (λ o. Goes o c.left top c.store.world 1 [] world (at b (Again b r ∷ ks) f cs)) (sym same) (turn_moves b r h n (suc n) e (omega arith))
    loop_moves b r h (Anew zero b' r' e lt) n k = absurd (omega arith)
    loop_moves b r h (Anew (suc most) b' r' e lt) n k =
        let same_b : b ≡ b' = ap (body_of b) e in
        let same_r : r ≡ r' = ap (behind r) e in
        subst (λ b'. Goes (closes pages m host c (onward (turns (suc most) (run pages m (calls pages m host c) (emit plan link h.here b')) (record { left = c.left; store = c.store; locals = c.locals })) (run pages m (calls pages m host c) (emit plan link h.here r')))) c.left top c.store.world 1 [] world (at b (Again b r ∷ ks) f cs)) same_b
        (subst (λ r'. Goes (closes pages m host c (onward (turns (suc most) (run pages m (calls pages m host c) (emit plan link h.here b)) (record { left = c.left; store = c.store; locals = c.locals })) (run pages m (calls pages m host c) (emit plan link h.here r')))) c.left top c.store.world 1 [] world (at b (Again b r ∷ ks) f cs)) same_r
        (turn_moves b r h n most k (omega (arith, k, lt))))
      where
        body_of : source.Code → source.Code → source.Code
        body_of d (source.Loop b r) = b
        body_of d _ = d

        behind : source.Code → source.Code → source.Code
        behind d (source.Loop b r) = r
        behind d _ = d

  -- A jump out of so many constructs.
  pub jump : (world : World) (g : Ghost) (top : ℕ) (code : source.Code) (ks : List flat.Around) (f : Frame) (cs : List flat.Caller) (c : Place W) (h : IsHeld g world (at code ks f cs) c top) (n : ℕ) → c.left ≡ suc n
      → (l : ℕ) (ks' : List flat.Around) (ls : List Around) → Arounds plan link context.globals sees h.here (length f.seen) c.left ks' ls
      → Follows (whole pages m host c.callers (finish c.type (resume pages m host (calls pages m host c) ls (Jumps l (record { left = n; store = c.store; locals = c.locals }))))) c.left top c.store.world (branch world l ks' f cs)
  jump world g top code ks f cs c h n e l [] ls a = tt
  jump world g top code ks f cs c h n e zero (Within r ∷ ks') [] a = absurd a
  jump world g top code ks f cs c h n e zero (Again b r ∷ ks') [] a = absurd a
  jump world g top code ks f cs c h n e (suc l) (Within r ∷ ks') [] a = absurd a
  jump world g top code ks f cs c h n e (suc l) (Again b r ∷ ks') [] a = absurd a
  jump world g top code ks f cs c h n e zero (Within r ∷ ks') (Turning most body rest ∷ ls) a = absurd a
  jump world g top code ks f cs c h n e zero (Again b r ∷ ks') (After rest ∷ ls) a = absurd a
  jump world g top code ks f cs c h n e (suc l) (Within r ∷ ks') (Turning most body rest ∷ ls) a = absurd a
  jump world g top code ks f cs c h n e (suc l) (Again b r ∷ ks') (After rest ∷ ls) a = absurd a
  jump world g top code ks f cs c h n e (suc l) (Within r ∷ ks') (After rest ∷ ls) a = jump world g top code ks f cs c h n e l ks' ls a.2
  jump world g top code ks f cs c h n e (suc l) (Again b r ∷ ks') (Turning most body rest ∷ ls) a = jump world g top code ks f cs c h n e l ks' ls a.5
  jump world g top code ks f cs c h n e zero (Within r ∷ ks') (After rest ∷ ls) a = λ levels deep. inl (record {
    to = moved pages m host c (emit plan link h.here r) n c.store c.locals ls;
    ghost = g;
    end = top;
    held = again_held world g top ks f cs c code h r ks' n ls (omega (arith, e)) a.1 (arounds_fewer plan link context.globals sees h.here (length f.seen) c.left n ks' ls (omega (arith, e)) a.2);
    turn = Usual;
    same = ap (λ rest. whole pages m host c.callers (finish c.type (resume pages m host (calls pages m host c) ls (run pages m (calls pages m host c) rest (record { left = n; store = c.store; locals = c.locals }))))) a.0;
    steps = 1;
    count = omega (arith, e);
    some = omega arith;
    few = are_paid 1 unit_steps 1 (omega arith) (omega arith);
    bytes = omega arith;
    shown = refl;
  })
  jump world g top code ks f cs c h n e zero (Again b r ∷ ks') (Turning most body rest ∷ ls) a = λ levels deep. inl (record {
    to = moved pages m host c (emit plan link h.here (source.Loop b r)) n c.store c.locals ls;
    ghost = g;
    end = top;
    held = again_held world g top ks f cs c code h (source.Loop b r) ks' n ls (omega (arith, e)) (a.3, a.4) (arounds_fewer plan link context.globals sees h.here (length f.seen) c.left n ks' ls (omega (arith, e)) a.5);
    turn = Anew most b r refl (let lt = a.0 in omega (arith, e, lt));
    same = λ i. whole pages m host c.callers (finish c.type (resume pages m host (calls pages m host c) ls (onward (turns most (run pages m (calls pages m host c) (a.1 i)) (record { left = n; store = c.store; locals = c.locals })) (run pages m (calls pages m host c) (a.2 i)))));
    steps = 1;
    count = omega (arith, e);
    some = omega arith;
    few = are_paid 1 unit_steps 1 (omega arith) (omega arith);
    bytes = omega arith;
    shown = refl;
  })

  -- where no step is left for it
  pub jump_short : (world : World) (top left : ℕ) (w : W) (before : Called W) → IsShort prints_of before left (steps_of plan link table sees context pages m host told fell prints_of unit_steps total roof 1) w
      → (l : ℕ) (ks : List flat.Around) (f : Frame) (cs : List flat.Caller) → Follows before left top w (branch world l ks f cs)
  jump_short world top left w before short l [] f cs = tt
  jump_short world top left w before short zero (Within r ∷ ks) f cs = λ levels deep. inr (inl short)
  jump_short world top left w before short zero (Again b r ∷ ks) f cs = λ levels deep. inr (inl short)
  jump_short world top left w before short (suc l) (k ∷ ks) f cs = jump_short world top left w before short l ks f cs

  pub branch_matches : (world : World) (g : Ghost) (top l : ℕ) (ks : List flat.Around) (f : Frame) (cs : List flat.Caller) (c : Place W) (h : IsHeld g world (at (source.Branch l) ks f cs) c top) (n : ℕ) → c.left ≡ suc n
      → Follows (places.rest_of pages m host c) c.left top c.store.world (branch world l ks f cs)
  branch_matches world g top l ks f cs c h n e =
      subst (λ o. Follows o c.left top c.store.world (branch world l ks f cs)) (sym (rest_is pages m host c (low.Branch l) (suc n) h.code e)) (jump world g top (source.Branch l) ks f cs c h n e l ks c.around h.around)

  -- A value goes back to what called.
  pub returned : (program : CodeProgram) (world : World) (g : Ghost) (top left n w nodes : ℕ) (v : Value) (store : Store W) (t : FunctionType) (cs : List flat.Caller) (ls : List Caller) (k : ℕ) → HeapHeld plan g world store top → NamesAt g store.memory link.names link.hidden context.globals → GroupsSee sees world → store.table ≡ table → Rep g store.memory w v
      → length t.results ≡ 1 → Callers plan link context.globals sees g store.memory total left cs ls → words_for (16 + nodes + depth_of cs) ≤ total → left ≡ k + n → k ≤ 63
      → Follows (whole pages m host ls (Gave n store (kept (length t.results) (Some w)))) left top store.world (back program context world v cs)
  returned program world g top left n w nodes v store t cs ls k heap names groups table_is rep one callers within e few =
      subst (λ x. Follows (whole pages m host ls (Gave n store x)) left top store.world (back program context world v cs)) (sym (ap (λ r. kept r (Some w)) one)) (by cs ls callers within)
    where
      -- a step puts it into its place
      hand : (n : ℕ) → left ≡ k + n → (c : flat.Caller) (cs : List flat.Caller) (l : Caller) (ls : List Caller) → (one : CallerHeld plan link context.globals sees g store.memory total left (depth_of cs) c l) → Callers plan link context.globals sees g store.memory total left cs ls
          → words_for (16 + nodes + (16 + c.frame.body.nodes + depth_of cs)) ≤ total → Follows (whole pages m host (l ∷ ls) (Gave n store (Some w))) left top store.world (handed program context world v None c cs)
      hand zero e c cs l ls one callers within = λ levels deep. inr (inl (record {
        store = store;
        same = ap (λ to. whole pages m host ls (finish l.type (resume pages m host (calls_of pages m host l.deep l.room) l.around (on_return l.locals (Gave 0 store (Some w)) (λ s v. result_to to s v (run pages m (calls_of pages m host l.deep l.room) l.rest)))))) one.to
            ∙ ap (λ o. whole pages m host ls (finish l.type o)) (resume_breaks pages m host (calls_of pages m host l.deep l.room) l.around trap.Steps store)
            ∙ whole_fell pages m host ls trap.Steps store;
        few = lacks k left unit_steps (omega (arith, e)) (omega (arith, few));
        part = record { more = []; is = sym (append-nil (prints_of store.world)) };
      }))
      hand (suc n) e c cs l ls one callers within = λ levels deep. inl (record {
        to = record { code = l.rest; left = n; store = store; locals = slice_set l.locals (slot c.to) w; around = l.around; deep = l.deep; room = l.room; type = l.type; callers = ls };
        ghost = g;
        end = top;
        held = record {
          here = one.here;
          code = one.rest;
          fits = one.fits;
          frame = frame_slot g store.memory c.frame one.here l.locals c.to w v one.to_fits rep one.frame;
          around = arounds_fewer plan link context.globals sees one.here (length c.frame.seen) left n c.around l.around (omega (arith, e)) one.around;
          callers = callers_later plan link context.globals sees g g store.memory store.memory (same_later g store.memory) total left n cs ls (omega (arith, e)) callers;
          heap = heap;
          names = names;
          groups = groups;
          table_is = table_is;
          results = one.results;
          room = one.room;
          deep = one.deep;
          within = omega (arith, within);
        };
        turn = Usual;
        same = ap (λ to. whole pages m host ls (finish l.type (resume pages m host (calls_of pages m host l.deep l.room) l.around (on_return l.locals (Gave (suc n) store (Some w)) (λ s v. result_to to s v (run pages m (calls_of pages m host l.deep l.room) l.rest)))))) one.to;
        steps = suc k;
        count = omega (arith, e);
        some = omega arith;
        few = are_paid (suc k) unit_steps 1 (omega arith) (omega (arith, few));
        bytes = omega arith;
        shown = refl;
      })

      by : (cs : List flat.Caller) (ls : List Caller) → Callers plan link context.globals sees g store.memory total left cs ls → words_for (16 + nodes + depth_of cs) ≤ total → Follows (whole pages m host ls (Gave n store (Some w))) left top store.world (back program context world v cs)
      by [] [] callers within = inl (record {
        rest = n;
        store = store;
        word = w;
        ghost = g;
        end = top;
        same = refl;
        rep = rep;
        heap = heap;
        names = names;
        groups = groups;
        table_is = table_is;
        fewer = omega (arith, e);
        few = let p = are_paid k unit_steps 1 (omega arith) (omega (arith, few)) in omega (arith, e, p);
        bytes = omega arith;
        shown = refl;
      })
      by [] (l ∷ ls) callers within = absurd callers
      by (c ∷ cs) [] callers within = absurd callers
      by (c ∷ cs) (l ∷ ls) callers within =
          let one : CallerHeld plan link context.globals sees g store.memory total left (depth_of cs) c l = callers.0 in
          subst (λ o. Follows (whole pages m host (l ∷ ls) (Gave n store (Some w))) left top store.world (handed program context world v o c cs)) (sym one.plain) (hand n e c cs l ls one callers.1 within)

  -- where too few steps are left for it
  pub back_short : (program : CodeProgram) (world : World) (g : Ghost) (memory : List ℕ) (top left rest : ℕ) (v : Value) (w : W) (before : Called W) (cs : List flat.Caller) (ls : List Caller) → Callers plan link context.globals sees g memory total rest cs ls
      → IsShort prints_of before left (steps_of plan link table sees context pages m host told fell prints_of unit_steps total roof 1) w → Follows before left top w (back program context world v cs)
  back_short program world g memory top left rest v w before [] ls callers short = inr (inl short)
  back_short program world g memory top left rest v w before (c ∷ cs) [] callers short = absurd callers
  back_short program world g memory top left rest v w before (c ∷ cs) (l ∷ ls) callers short =
      let one : CallerHeld plan link context.globals sees g memory total rest (depth_of cs) c l = callers.0 in
      subst (λ o. Follows before left top w (handed program context world v o c cs)) (sym one.plain) (λ levels deep. inr (inl short))
