-- A group of functions is made.
use Rattle.std.proofs.Common.{◌≡◌, ◌⊎◌, inl, inr, ℕ, zero, suc, ◌+◌, ◌*◌, ◌<◌, ◌≤◌, ◌^◌, max, List, [], ◌∷◌, ◌++◌, length, true, Option, Some, refl, sym, ap, ◌∙◌, subst, arith, length-append}
use Rattle.std.specs.Prelude.{slice_index, slice_set, slice_get, pos}
use Rattle.mo_values.specs.Shapes.{Bytes, Function}
use Rattle.wasm_tree.specs.declared.trap.Trap.{Trap}
use Rattle.wasm_tree.specs.declared.trap.Trap.TheVariants as trap
use Rattle.wasm_tree.specs.declared.types.ValueType.TheVariants.{I32}
use Rattle.wasm_tree.specs.declared.op.Conversion.TheVariants.{ExtendU}
use Rattle.wasm_tree.specs.Numeric.{low}
use Rattle.wasm_tree.specs.Exec.{Host, Store}
use Rattle.core_ir.specs.declared.code.Operand.{Operand}
use Rattle.core_ir.specs.Choices.{on_some}
use Rattle.core_ir.specs.Programs.{Group}
use Rattle.core_ir.specs.Values.{members}
use Rattle.core_ir.specs.Worlds.{World, Context, MadeGroup, with_group}
use Rattle.core_ir.specs.Code as source
use Rattle.core_ir.specs.Code.{Body, CodeProgram, nodes_of}
use Rattle.core_ir.specs.CodeMachine as flat
use Rattle.core_ir.specs.CodeMachine.{Frame, at, stuck, values, put_all, made_in, depth_of}
use Rattle.low_ir.specs.declared.op.Operand.TheVariants.{Local, Word}
use Rattle.low_ir.specs.declared.op.Operation.TheVariants.{Convert}
use Rattle.low_ir.specs.Tree as tree
use Rattle.low_ir.specs.Tree.{Code, Module}
use Rattle.low_ir.specs.Meaning.{Called, Fell, Breaks, run}
use Rattle.low_ir.specs.Frames.{finish}
use Rattle.low_rules.specs.Rule.{At, CallEnd, CodeEnd, Contracts, ComesTo, Before, spend, after_call, ResultTo}
use Rattle.low_rules.proofs.Steps.{low_is}
use Rattle.low_rules.proofs.Entering.{weaker}
use Rattle.code_sequences.specs.Laws as sequences
use Rattle.code_sequences.specs.Laws.{Goes, Falls}
use Rattle.code_sequences.specs.Sequences.{seq}
use Rattle.code_sequences.proofs.Prefix.{prefix}
use Rattle.code_sequences.specs.Places.{Place, whole, closes}
use Rattle.code_sequences.specs.Places as places
use Rattle.memory_routines.specs.Heaps.{heap, heap_end, enlarged, pages_for}
use Rattle.memory_routines.specs.Allocation.{Allocates}
use Rattle.memory_routines.specs.Laws.{IsHeapStill}
use Rattle.memory_routines.proofs.Stays.{heaps_stay}
use Rattle.heap_layout.specs.Ghosts.{Ghost, with_group_at}
use Rattle.heap_layout.specs.Fills.{filled, with_words, entry_words, group_block}
use Rattle.heap_layout.specs.Means.{Rep, Reps}
use Rattle.heap_layout.specs.Heaps.{Plan, Holds}
use Rattle.heap_layout.specs.Laws.{GroupIsMade}
use Rattle.heap_layout.specs.Later.{Later}
use Rattle.heap_layout.specs.Table.{bytes_for, words_beside}
use Rattle.heap_layout.proofs.Owners.{get_appended}
use Rattle.heap_layout.proofs.Written.{word_larger}
use Rattle.flat_emission.specs.Emission.{Linkage, emit, makes, entries, captures, handles, first_word, value_word}
use Rattle.emitted_steps.specs.Operations.{AllocationKeeps, HeapHeld}
use Rattle.emitted_steps.specs.Modules.{FunctionsAre}
use Rattle.emitted_steps.specs.States.{Fits, Arounds, FrameHeld, Held, words_for}
use Rattle.emitted_steps.specs.Shortage.{ShowsMore, RunsOut, StepsRunOut}
use Rattle.emitted_steps.specs.Steps.{Moves, Lacks, Usual, own_steps}
use Rattle.emitted_steps.proofs.Short.{either, shows_same, closed_short, goes_or, falls_or}
use Rattle.emitted_steps.proofs.Frames.{local_here, local_other, frame_behind, frame_later, names_later, arounds_fewer, callers_later}
use Rattle.emitted_steps.proofs.Operands.{values_length}
use Rattle.emitted_steps.proofs.Control.{calls, resume_breaks, whole_fell, Follows}
use Rattle.emitted_steps.proofs.Lets.{by_some}
use Rattle.emitted_steps.proofs.Calls.{paid, reps_length}
use Rattle.emitted_steps.proofs.Filling.{Filling, entries_do, captures_do}
use Rattle.emitted_steps.proofs.Groups.{group_made, put_all_seen, put_all_body, handles_do}

-- ---- the words of a block

filled_on : (memory : List ℕ) (i j : ℕ) (l r : List ℕ) → j ≡ i + length l → filled (filled memory i l) j r ≡ filled memory i (l ++ r)
filled_on memory i j [] r e = ap (λ k. filled memory k r) (omega (arith, e))
filled_on memory i j (w ∷ l) r e = filled_on (filled memory i (w ∷ [])) (suc i) j l r (omega (arith, e))

entries_long : (plan : Plan) (code b k count : ℕ) → length (entry_words plan code b k count) ≡ 2 * count
entries_long plan code b k zero = refl
entries_long plan code b k (suc count) = let l = entries_long plan code b (suc k) count in omega (arith, l)

there : {X : Type 0} (xs : List X) (k : ℕ) → k < length xs → (x : X) × (slice_get xs k ≡ Some x)
there [] k lt = absurd (omega arith)
there (x ∷ xs) zero lt = (x, refl)
there (x ∷ xs) (suc k) lt = there xs k (omega arith)

module _ (plan : Plan) (link : Linkage) (table : List (Option ℕ)) (sees : ℕ → ℕ) (program : CodeProgram) (context : Context) {W : Type 0} (pages : ℕ) (m : Module) (host : Host W) (told fell : W → Bytes → W) (prints_of : W → List Bytes) (out : StepsRunOut pages m host told fell prints_of) (unit_steps total roof below : ℕ)
    (allocates : AllocationKeeps pages m host link) (low_roof : roof ≤ heap_end) (few_pages : pages_for roof ≤ pages) (are : FunctionsAre plan link table sees context.globals m program) (world : World) (g : Ghost) (top : ℕ) (ks : List flat.Around) (f : Frame) (cs : List flat.Caller) (c : Place W)
    (t : ℕ) (seen : List Operand) (code : ℕ) (rest : source.Code) (h : Held plan link table sees context total g world (at (source.Make t seen code rest) ks f cs) c top) where
  abbrev F : Called W → flat.Did → Type 0
  F before d = Follows plan link table sees context pages m host told fell prints_of unit_steps total roof below before c.left top c.store.world d

  abbrev one : ℕ
  one = first_word h.here

  abbrev two : ℕ
  two = value_word h.here

  module _ (group : Group Body) (group_is : slice_get program.groups code ≡ Some group) where
    abbrev n : ℕ
    n = plan.sizes code

    abbrev size : ℕ
    size = 8 * (2 * n + length seen)

    abbrev nodes : ℕ
    nodes = nodes_of group.bodies

    abbrev count : ℕ
    count = h.heap.count

    abbrev from : At W
    from = record { spent = 0; store = c.store; locals = c.locals }

    abbrev does : Contracts W
    does f store args q = ComesTo (calls pages m host c) f store args q

    abbrev world' : World
    world' = with_group world code (values context.globals f seen)

    abbrev frame' : Frame
    frame' = put_all f t (members (length world.groups) 0 (length group.bodies))

    -- The code of the group has come to its end.
    pub record Finished (to : At W) : Type 0 where
      pub ghost : Ghost
      pub end : ℕ
      pub heap : HeapHeld plan ghost world' to.store end
      pub later : Later g ghost c.store.memory to.store.memory
      pub frame : FrameHeld ghost to.store.memory frame' h.here to.locals
      pub few : to.spent ≤ 55 + 10 * n + 10 * length seen
      pub some : 1 ≤ to.spent
      pub end_is : end ≡ top + (2 * n + length seen)
      pub same_table : to.store.table ≡ c.store.table
      pub shown : to.store.world ≡ c.store.world

    -- Memory was wanting for it.
    abbrev Wants : Trap → ℕ → Store W → Type 0
    Wants cause spent store = (cause ≡ trap.Unreachable) × (store.refused ≡ true) × (spent ≤ 96) × (store.world ≡ c.store.world) × (roof < 8 * top + bytes_for (1 + nodes))

    abbrev P : CodeEnd W → Type 0
    P = sequences.Comes Finished Wants

    abbrev hands : Code
    hands = handles plan link h.here t 0 n

    abbrev takes : Code
    takes = captures plan link h.here (2 * n) seen hands

    abbrev fills : Code
    fills = tree.Set two (Convert ExtendU (Local one)) (entries plan link h.here code 0 n takes)

    small : 2 * n + length seen ≤ 4 * (1 + nodes)
    small = let p = are.paid code group group_is in let s = are.sizes code group group_is in let e = h.fits.1 in omega (arith, p, s, e)

    entry_small : (k : ℕ) → k < n → plan.entry_of code k < 2 ^ 64
    entry_small k lt =
        let b = there group.bodies k (let s = are.sizes code group group_is in omega (arith, s, lt)) in
        let e = (are.functions code k group b.0 group_is b.1).entry_small in omega (arith, e)

    module _ (short : 8 * top + size ≤ heap_end) where
      abbrev grown : List ℕ
      grown = enlarged c.store.memory count (8 * top + size)

      abbrev ends : List ℕ
      ends = (8 * top + size) ∷ h.heap.others

      abbrev most : ℕ
      most = max count (pages_for (8 * top + size))

      still : IsHeapStill c.store.memory grown count (8 * top) size
      still = (heaps_stay c.store.memory count (8 * top) size h.heap.holds.heap short).0

      abbrev Fill : List ℕ → Type 0
      Fill memory = Filling plan link pages m does context.globals sees g world c.store top h.heap h.names f h.here ends most size memory

      begun : Fill grown
      begun = record { is = still.is; old = λ i lt. word_larger c.store.memory _ i (let k = h.heap.holds.heap.inside in omega (arith, k, lt)) }

      -- the block has its words
      ended : (spent : ℕ) (locals ws : List ℕ) → 1 ≤ spent → spent ≤ 55 + 6 * n + 10 * length seen → slice_index locals two ≡ 8 * top → FrameHeld g c.store.memory f h.here locals → Reps g c.store.memory ws (values context.globals f seen)
          → (memory : List ℕ) → memory ≡ filled (filled grown top (entry_words plan code top 0 n)) (top + 2 * n) ws
          → Before pages m does hands P (record { spent = spent; store = record { memory = memory; globals = ends; table = c.store.table; refused = c.store.refused; world = c.store.world }; locals = locals })
      ended spent locals ws some few at_two frame reps memory is =
          let block : List ℕ = group_block plan code top ws in
          let count_is : length ws ≡ length seen = reps_length g c.store.memory ws (values context.globals f seen) reps ∙ values_length context.globals f seen in
          let long : length block ≡ 2 * n + length seen = length-append (entry_words plan code top 0 n) ws ∙ (let l = entries_long plan code top 0 n in omega (arith, l, count_is)) in
          let bytes_are : 8 * top + size ≡ 8 * top + 8 * length block = omega (arith, long) in
          let whole : memory ≡ with_words c.store.memory count top block =
          is ∙ filled_on grown top (top + 2 * n) (entry_words plan code top 0 n) ws (let l = entries_long plan code top 0 n in omega (arith, l)) ∙ ap (λ b. filled (enlarged c.store.memory count b) top block) bytes_are in
          let made : GroupIsMade plan g world c.store.memory count top code ws (values context.globals f seen) = group_made plan g world c.store.memory count top h.heap.holds code entry_small ws (values context.globals f seen) reps (omega (arith, short, long)) in
          let ghost : Ghost = with_group_at g top (length block) in
          let later : Later g ghost c.store.memory memory = subst (λ l. Later g ghost c.store.memory l) (sym whole) made.later in
          let holds : Holds plan ghost world' memory (max count (pages_for (8 * top + 8 * length block))) (top + length block) =
          subst (λ l. Holds plan ghost world' l (max count (pages_for (8 * top + 8 * length block))) (top + length block)) (sym whole) made.holds in
          let end_is : 8 * top + size ≡ 8 * (top + length block) = omega (arith, long) in
          let store : Store W = record { memory = memory; globals = ends; table = c.store.table; refused = c.store.refused; world = c.store.world } in
          let held : HeapHeld plan ghost world' store (top + length block) = record { count = max count (pages_for (8 * top + 8 * length block)); others = h.heap.others; is = ap (λ e. heap store memory e h.heap.others) end_is; holds = holds } in
          handles_do plan link pages m does h.here store ghost (length world.groups) top n (let w = h.heap.holds.heap.whole in omega (arith, short))
          (λ k lt. subst (λ l. Rep ghost l (8 * (top + 2 * k)) (Function (record { group = length world.groups; member = k }))) (sym whole) (made.member k lt))
          0 n t f P spent locals (omega arith) h.fits.0 some (frame_later g ghost c.store.memory memory later f h.here locals frame) at_two
          (λ spent' locals' ok less frame. record {
            ghost = ghost;
            end = top + length block;
            heap = held;
            later = later;
            frame = subst (λ k. FrameHeld ghost memory (put_all f t (members (length world.groups) 0 k)) h.here locals') (are.sizes code group group_is) frame;
            few = omega (arith, few, less);
            some = ok;
            end_is = omega (arith, long);
            same_table = refl;
            shown = refl;
          })

      -- the block has been allocated
      filled_up : (spent : ℕ) (locals : List ℕ) → 1 ≤ spent → spent ≤ 52 → FrameHeld g c.store.memory f h.here locals → slice_index locals one ≡ 8 * top
          → Before pages m does fills P (record { spent = spent; store = heap c.store grown (8 * top + size) h.heap.others; locals = locals })
      filled_up spent locals some few frame at_one =
          let w : ℕ = low I32 (slice_index locals one) in
          let w_is : w ≡ 8 * top = ap (low I32) at_one ∙ low_is (8 * top) (omega (arith, short)) in
          let last : List ℕ = slice_set locals two w in
          let frame_last : FrameHeld g c.store.memory f h.here last = frame_behind g c.store.memory f h.here locals two w (omega arith) frame in
          let last_two : slice_index last two ≡ 8 * top = local_here locals two w (let l = frame.long in omega (arith, l)) ∙ w_is in
          let last_one : slice_index last one ≡ 8 * top = local_other locals two one w (λ e. omega (arith, e)) ∙ at_one in
          entries_do plan link pages m does context.globals sees g world c.store top h.heap h.names f h.here ends most size code 0 n top takes P (spent + 3) grown last (omega arith) (omega arith) (omega arith) last_one last_two begun
          (λ once ok less f1.
          captures_do plan link pages m does context.globals sees g world c.store top h.heap h.names f h.here ends most size seen (2 * n) (top + 2 * n) hands P once (filled grown top (entry_words plan code top 0 n)) last refl (omega arith) ok h.fits.3 h.fits.2 last_one last_two frame_last f1
          (λ twice locals' ws ok' more two' frame' reps f2.
          ended twice locals' ws ok' (omega (arith, few, less, more)) two' frame' reps (filled (filled grown top (entry_words plan code top 0 n)) (top + 2 * n) ws) refl))

    abbrev After : CallEnd W → Type 0
    After end = after_call (spend (length (Word (pos size) ∷ []) + 1) from) (ResultTo (Some one) (λ h. Before pages m does fills P h)) P end

    narrow : size < 2 ^ 32
    narrow = let p = are.short code group group_is in let s = are.sizes code group group_is in let e = h.fits.1 in omega (arith, p, s, e)

    lack : (heap_end < 8 * top + size) ⊎ (pages < pages_for (8 * top + size)) → roof < 8 * top + bytes_for (1 + nodes)
    lack (inl lt) = let s = small in omega (arith, lt, low_roof, s)
    lack (inr lt) = beyond (8 * top + size) lt (let s = small in omega (arith, s))
      where
        beyond : (a : ℕ) → pages < pages_for a → a ≤ 8 * top + bytes_for (1 + nodes) → roof < 8 * top + bytes_for (1 + nodes)
        beyond a lt le = let q : roof < a = omega (arith, lt, few_pages) in omega (arith, q, le)

    allocated : (end : CallEnd W) → Allocates pages c.store c.store.memory count (8 * top) h.heap.others size end → After end
    allocated end (inl a) =
        let cost : ℕ = a.0 in
        let le : cost ≤ 49 = a.1 in
        subst After (sym a.4)
        (filled_up a.2 (2 + cost + 1) (slice_set c.locals one (8 * top)) (omega arith) (omega (arith, le)) (frame_behind g c.store.memory f h.here c.locals one (8 * top) (omega arith) h.frame)
        (local_here c.locals one (8 * top) (let l = h.frame.long in omega (arith, l))))
    allocated end (inr b) = let cost : ℕ = b.0 in let le : cost ≤ 44 = b.1 in subst After (sym b.3) (refl, refl, omega (arith, le), refl, lack b.2)

    made : Goes pages m (calls pages m host c) (makes plan link h.here t seen code) Finished from ⊎ Falls pages m (calls pages m host c) (makes plan link h.here t seen code) Wants from
    made =
        prefix pages m (calls pages m host c) does (λ f store args q k. k) (makes plan link h.here t seen code) Finished Wants from
        (subst (λ store. ComesTo (calls pages m host c) link.allocation store (size ∷ []) After) (sym h.heap.is)
        (weaker (calls pages m host c) link.allocation (heap c.store c.store.memory (8 * top) h.heap.others) (size ∷ []) (Allocates pages c.store c.store.memory count (8 * top) h.heap.others size) After allocated
        (allocates c.deep c.room (let k = h.deep in let w = h.within in omega (arith, k, w)) (let k = h.room in let w = h.within in omega (arith, k, w)) c.store c.store.memory count (8 * top) h.heap.others h.heap.holds.heap size narrow)))

    cheaply : (go : Goes pages m (calls pages m host c) (makes plan link h.here t seen code) Finished from) → go.cost ≤ 96 * (1 + nodes)
    cheaply go = let w = go.holds in let l = w.few in let s = go.total in let b = small in omega (arith, l, s, b)

    same_code : places.rest_of pages m host c ≡ closes pages m host c (run pages m (calls pages m host c) (seq (makes plan link h.here t seen code) (emit plan link h.here rest)) (record { left = c.left; store = c.store; locals = c.locals }))
    same_code = ap (λ x. closes pages m host c (run pages m (calls pages m host c) x (record { left = c.left; store = c.store; locals = c.locals }))) h.code

    make_moves : (go : Goes pages m (calls pages m host c) (makes plan link h.here t seen code) Finished from) (k : ℕ) → c.left ≡ go.cost + k
        → Moves plan link table sees context pages m host told fell prints_of unit_steps total roof (places.rest_of pages m host c) c.left top c.store.world (1 + nodes) [] world' (at rest ks frame' cs)
    make_moves go k count_is =
        let w : Finished go.to = go.holds in
        let cheap : go.cost ≤ 96 * (1 + nodes) = cheaply go in
        let seen_is : frame'.seen ≡ f.seen = put_all_seen f t (members (length world.groups) 0 (length group.bodies)) in
        let body_is : frame'.body ≡ f.body = put_all_body f t (members (length world.groups) 0 (length group.bodies)) in
        let sees_is : length (values context.globals f seen) ≡ sees code = values_length context.globals f seen ∙ h.fits.1 in
        record {
          to = record { code = emit plan link h.here rest; left = k; store = go.to.store; locals = go.to.locals; around = c.around; deep = c.deep; room = c.room; type = c.type; callers = c.callers };
          ghost = w.ghost;
          end = w.end;
          held = record {
            here = h.here;
            code = refl;
            fits = subst (λ l. Fits plan link context.globals sees h.here (length l) rest) (sym seen_is) h.fits.4;
            frame = w.frame;
            around = subst (λ l. Arounds plan link context.globals sees h.here (length l) k ks c.around) (sym seen_is) (arounds_fewer plan link context.globals sees h.here (length f.seen) c.left k ks c.around (omega (arith, count_is)) h.around);
            callers = callers_later plan link context.globals sees g w.ghost c.store.memory go.to.store.memory w.later total c.left k cs c.callers (omega (arith, count_is)) h.callers;
            heap = w.heap;
            names = names_later g w.ghost c.store.memory go.to.store.memory w.later link.names link.hidden context.globals h.names;
            groups = λ i made e. see sees_is i made (get_appended world.groups (record { code = code; seen = values context.globals f seen }) made i e);
            table_is = w.same_table ∙ h.table_is;
            results = h.results;
            room = subst (λ x. total + words_beside ≤ c.room + words_for (16 + x.nodes + depth_of cs)) (sym body_is) h.room;
            deep = subst (λ x. total + words_beside ≤ c.deep + words_for (16 + x.nodes + depth_of cs)) (sym body_is) h.deep;
            within = subst (λ x. words_for (16 + x.nodes + depth_of cs) ≤ total) (sym body_is) h.within;
          };
          turn = Usual;
          same = same_code ∙ ap (closes pages m host c) (go.by (emit plan link h.here rest) c.left k count_is);
          steps = go.cost;
          count = count_is;
          some = let l = w.some in let s = go.total in omega (arith, l, s);
          few = paid go.cost unit_steps nodes cheap;
          bytes = let b = small in let e = w.end_is in omega (arith, b, e);
          shown = w.shown;
        }
      where
        see : length (values context.globals f seen) ≡ sees code → (i : ℕ) (made : MadeGroup) → (slice_get world.groups i ≡ Some made) ⊎ ((i ≡ length world.groups) × (record { code = code; seen = values context.globals f seen } ≡ made)) → length made.seen ≡ sees made.code
        see e i made (inl a) = h.groups i made a
        see e i made (inr b) = subst (λ (made : MadeGroup). length made.seen ≡ sees made.code) b.1 e

    abbrev C : Code
    C = emit plan link h.here rest

    abbrev Lack : Type 0
    Lack = Lacks plan link table sees context pages m host told fell prints_of unit_steps total roof (places.rest_of pages m host c) c.left top (1 + nodes) c.store.world

    -- too few steps
    unmade : (cost : ℕ) → cost ≤ 96 * (1 + nodes) → (store : Store W) → store.world ≡ c.store.world
        → (c.left < cost) × RunsOut prints_of (run pages m (calls pages m host c) (seq (makes plan link h.here t seen code) C) (record { left = c.left; store = c.store; locals = c.locals })) store.world → Lack
    unmade cost cheap store same k =
        let p = paid cost unit_steps nodes cheap in
        inl (closed_short prints_of pages m host c (places.rest_of pages m host c) (run pages m (calls pages m host c) (seq (makes plan link h.here t seen code) C) (record { left = c.left; store = c.store; locals = c.locals })) c.left ((own_steps + unit_steps) * (1 + nodes)) c.store.world same_code
        (let lt = k.0 in omega (arith, lt, p)) (subst (λ w. RunsOut prints_of (run pages m (calls pages m host c) (seq (makes plan link h.here t seen code) C) (record { left = c.left; store = c.store; locals = c.locals })) w) same k.1))

    fell_same : (cause : Trap) (store : Store W) → run pages m (calls pages m host c) (seq (makes plan link h.here t seen code) C) (record { left = c.left; store = c.store; locals = c.locals }) ≡ Breaks cause store → places.rest_of pages m host c ≡ Fell cause store
    fell_same cause store same =
        same_code ∙ ap (closes pages m host c) same
        ∙ ap (λ o. whole pages m host c.callers (finish c.type o)) (resume_breaks pages m host (calls pages m host c) c.around cause store)
        ∙ whole_fell pages m host c.callers cause store

    make_goes : Moves plan link table sees context pages m host told fell prints_of unit_steps total roof (places.rest_of pages m host c) c.left top c.store.world (1 + nodes) [] world' (at rest ks frame' cs) ⊎ Lack
    make_goes =
        either made
        (λ go.
        either (goes_or pages m host told fell prints_of out c.deep c.room (makes plan link h.here t seen code) C from Finished go c.left) (λ k. inl (make_moves go k.0 k.1)) (λ k. inr (unmade go.cost (cheaply go) go.to.store go.holds.shown k)))
        (λ x.
        either (falls_or pages m host told fell prints_of out c.deep c.room (makes plan link h.here t seen code) C from Wants x c.left)
        (λ same.
        inr (inr (record {
          store = x.store;
          same = fell_same x.cause x.store same ∙ ap (λ cause. Fell cause x.store) x.holds.0;
          refused = x.holds.1;
          lacks = x.holds.4;
          part = subst (λ u. ShowsMore prints_of u c.store.world) (sym x.holds.3) (shows_same prints_of c.store.world);
        })))
        (λ k. inr (unmade x.cost (let l = x.holds.2 in omega (arith, l)) x.store x.holds.3 k)))

  pub make_matches : F (places.rest_of pages m host c) (on_some (stuck world) (slice_get program.groups code) (λ group. made_in program context world t (values context.globals f seen) code rest ks f cs group.bodies))
  make_matches =
      by_some (λ d. F (places.rest_of pages m host c) d) (stuck world) (slice_get program.groups code) _ tt
      (λ group group_is levels over. make_goes group group_is)
