-- Whole runs.
use Rattle.std.proofs.Common.{◌≡◌, ◌⊎◌, inl, inr, ℕ, zero, suc, ◌+◌, ◌*◌, ◌<◌, ◌≤◌, List, [], ◌∷◌, ◌++◌, max, Option, refl, sym, ap, ◌∙◌, subst, arith, append_assoc}
use Rattle.std.proofs.lemmas.List.{append-nil}
use Rattle.mo_values.specs.Costs.{Cost}
use Rattle.mo_values.specs.Shapes.{Bytes}
use Rattle.wasm_tree.specs.Exec.{Host}
use Rattle.core_ir.specs.Worlds.{World, Context}
use Rattle.core_ir.specs.Executions.{Replies, Rejects, Waits, Traps, Breaks, Go, Ends, Stand, Still, Over, after_step, run, deep_with}
use Rattle.core_ir.specs.Code.{CodeProgram}
use Rattle.core_ir.specs.CodeMachine.{State, Waiting, Did, step, depth, code_machine}
use Rattle.low_ir.specs.Tree.{Module}
use Rattle.low_ir.specs.Meaning.{Called}
use Rattle.memory_routines.specs.Heaps.{heap_end, pages_for}
use Rattle.code_sequences.specs.Places.{Place}
use Rattle.heap_layout.specs.Ghosts.{Ghost}
use Rattle.heap_layout.specs.Heaps.{Plan}
use Rattle.heap_layout.specs.Table.{bytes_for, words_for_levels}
use Rattle.flat_emission.specs.Emission.{Linkage, Here}
use Rattle.emitted_steps.specs.Operations.{AllKeep, AllocationKeeps, told_all}
use Rattle.emitted_steps.specs.Modules.{FunctionsAre}
use Rattle.emitted_steps.specs.Shortage.{ShowsMore, IsShort, IsWanting, StepsRunOut}
use Rattle.emitted_steps.specs.States.{Held, words_for}
use Rattle.emitted_steps.specs.Steps.{Turn, steps_of, rest_of, Moves, Lacks, Matches}
use Rattle.emitted_steps.proofs.Followed.{steps_followed}
use Rattle.emitted_runs.specs.Stands.{behind}
use Rattle.emitted_runs.specs.Runs.{AskedThen, AskedFor, weight_of, deepest, shown_by, StandsAs, RunsTo}
use Rattle.emitted_runs.specs.Laws.{RunsAreFollowed}
use Rattle.emitted_runs.proofs.Behind.{gone, zero_first}
use Rattle.emitted_runs.proofs.Quiet.{Quiet, quiet}

pub told_more : {W : Type 0} (told : W → Bytes → W) (w : W) (a b : List Bytes) → told_all told (told_all told w a) b ≡ told_all told w (a ++ b)
told_more told w [] b = refl
told_more told w (t ∷ a) b = told_more told (told w t) a b

spread : (u a b : ℕ) → (96 + u) * (a + b) ≡ (96 + u) * a + (96 + u) * b
spread u a b = omega arith

no_less : (u a b : ℕ) → (96 + u) * a ≤ (96 + u) * (a + b)
no_less u a b = let e = spread u a b in omega (arith, e)

more_bytes : (a b : ℕ) → bytes_for (a + b) ≡ bytes_for a + bytes_for b
more_bytes a b = omega arith

-- ---- what a run shows, and its words

abbrev pub walk : CodeProgram → Context → ℕ → World → State → Stand State Waiting
walk program context n world s = run (code_machine program) context n 0 0 [] world s

pub shown_behind : {W : Type 0} (told fell : W → Bytes → W) (v : W) (w d : ℕ) (out : List Bytes) (stand : Stand State Waiting) → shown_by told fell (told_all told v out) stand ≡ shown_by told fell v (behind w d out stand)
shown_behind told fell v w d out (Still weight deep o world s) = told_more told v out o
shown_behind told fell v w d out (Over weight deep o world (Replies x)) = told_more told v out o
shown_behind told fell v w d out (Over weight deep o world (Rejects x)) = told_more told v out o
shown_behind told fell v w d out (Over weight deep o world (Waits x y)) = told_more told v out o
shown_behind told fell v w d out (Over weight deep o world (Traps text)) = ap (λ u. fell u text) (told_more told v out o)
shown_behind told fell v w d out (Over weight deep o world Breaks) = told_more told v out o

pub weight_behind : (w d : ℕ) (out : List Bytes) (stand : Stand State Waiting) → weight_of (behind w d out stand) ≡ w + weight_of stand
weight_behind w d out (Still weight deep o world s) = refl
weight_behind w d out (Over weight deep o world end) = refl

pub deepest_behind : (w d : ℕ) (p : List Bytes) (stand : Stand State Waiting) → d ≤ deepest (behind w d p stand)
deepest_behind w d p (Still weight deep out world s) = omega arith
deepest_behind w d p (Over weight deep out world end) = omega arith

pub deepest_after : (w d : ℕ) (p : List Bytes) (stand : Stand State Waiting) → deepest stand ≤ deepest (behind w d p stand)
deepest_after w d p (Still weight deep out world s) = omega arith
deepest_after w d p (Over weight deep out world end) = omega arith

module _ (program : CodeProgram) (context : Context) where
  -- a run is as deep as the state in which it begins
  covers_step : (n : ℕ) (s : State) (x : Did) → depth s ≤ deepest (after_step (run (code_machine program) context n) (depth s) 0 0 [] x)
  covers_step n s (Go cost out world' s') =
      subst (λ stand. depth s ≤ deepest stand) (sym (gone (code_machine program) context n (depth s) cost out world' s'))
      (let k = deepest_behind cost.weight (deep_with (depth s) cost) out (walk program context n world' s') in omega (arith, k))
  covers_step n s (Ends cost out world' end) = omega arith

  pub covers : (n : ℕ) (world : World) (s : State) → depth s ≤ deepest (walk program context n world s)
  covers zero world s = omega arith
  covers (suc n) world s = covers_step n s (step program context world s)

module _ {W : Type 0} (prints_of : W → List Bytes) where
  pub shows_same : (w : W) → ShowsMore prints_of w w
  shows_same w = record { more = []; is = sym (append-nil (prints_of w)) }

  pub shows_on : (a b c : W) → ShowsMore prints_of a b → ShowsMore prints_of b c → ShowsMore prints_of a c
  shows_on a b c p q = record { more = p.more ++ q.more; is = q.is ∙ ap (λ l. l ++ q.more) p.is ∙ append_assoc (prints_of a) p.more q.more }

  module _ (told fell : W → Bytes → W) (tells : (w : W) (text : Bytes) → prints_of (told w text) ≡ prints_of w ++ text ∷ []) (fails : (w : W) (text : Bytes) → ShowsMore prints_of w (fell w text)) where
    pub shows_told : (w : W) (out : List Bytes) → ShowsMore prints_of w (told_all told w out)
    shows_told w [] = shows_same w
    shows_told w (t ∷ out) = shows_on w (told w t) (told_all told (told w t) out) (record { more = t ∷ []; is = tells w t }) (shows_told (told w t) out)

    pub shows_stand : (w : W) (stand : Stand State Waiting) → ShowsMore prints_of w (shown_by told fell w stand)
    shows_stand w (Still weight deep out world s) = shows_told w out
    shows_stand w (Over weight deep out world (Replies x)) = shows_told w out
    shows_stand w (Over weight deep out world (Rejects x)) = shows_told w out
    shows_stand w (Over weight deep out world (Waits x y)) = shows_told w out
    shows_stand w (Over weight deep out world (Traps text)) = shows_on w (told_all told w out) (fell (told_all told w out) text) (shows_told w out) (fails (told_all told w out) text)
    shows_stand w (Over weight deep out world Breaks) = shows_told w out

module _ (plan : Plan) (link : Linkage) (table : List (Option ℕ)) (sees : ℕ → ℕ) (program : CodeProgram) (context : Context) {W : Type 0} (pages : ℕ) (m : Module) (host : Host W) (told fell : W → Bytes → W) (prints_of : W → List Bytes) (unit_steps total roof : ℕ)
    (run_out : StepsRunOut pages m host told fell prints_of) where
  abbrev pub To : Called W → ℕ → ℕ → W → ℕ → Stand State Waiting → Type 0
  To before left top w n stand = RunsTo plan link table sees context pages m host told fell prints_of unit_steps total roof before left top w n stand

  abbrev As : Called W → ℕ → ℕ → W → ℕ → Stand State Waiting → Type 0
  As before left top w n stand = StandsAs plan link table sees context pages m host told fell prints_of unit_steps total roof before left top w n stand

  abbrev Mv : Called W → ℕ → ℕ → W → ℕ → List Bytes → World → State → Type 0
  Mv before left top w weight prints world s = Moves plan link table sees context pages m host told fell prints_of unit_steps total roof before left top w weight prints world s

  abbrev So : ℕ → ℕ
  So weight = steps_of plan link table sees context pages m host told fell prints_of unit_steps total roof weight

  -- ---- less is lacking where more is wanted

  short_more : (before : Called W) (left a b : ℕ) (v u : W) → a ≤ b → ShowsMore prints_of v u → IsShort prints_of before left a v → IsShort prints_of before left b u
  short_more before left a b v u le more x = record { store = x.store; same = x.same; few = let l = x.few in omega (arith, l, le); part = shows_on prints_of x.store.world v u x.part more }

  wanting_more : (before : Called W) (a b : ℕ) (v u : W) → a ≤ b → ShowsMore prints_of v u → IsWanting prints_of before roof a v → IsWanting prints_of before roof b u
  wanting_more before a b v u le more x = record { store = x.store; same = x.same; refused = x.refused; lacks = let l = x.lacks in omega (arith, l, le); part = shows_on prints_of x.store.world v u x.part more }

  -- of a step, where a run goes on from there
  module _ (before : Called W) (left top : ℕ) (v : W) (w d : ℕ) (out : List Bytes) (stand : Stand State Waiting) where
    abbrev all : Stand State Waiting
    all = behind w d out stand

    shows_on_all : ShowsMore prints_of (told_all told v out) (shown_by told fell v all)
    shows_on_all = subst (λ u. ShowsMore prints_of (told_all told v out) u) (shown_behind told fell v w d out stand) (shows_stand prints_of told fell run_out.tells run_out.fails (told_all told v out) stand)

    short_on : IsShort prints_of before left (So w) (told_all told v out) → IsShort prints_of before left (So (weight_of all)) (shown_by told fell v all)
    short_on x = short_more before left (So w) (So (weight_of all)) (told_all told v out) (shown_by told fell v all) (subst (λ n. So w ≤ So n) (sym (weight_behind w d out stand)) (no_less unit_steps w (weight_of stand))) shows_on_all x

    wanting_on : IsWanting prints_of before roof (8 * top + bytes_for w) (told_all told v out) → IsWanting prints_of before roof (8 * top + bytes_for (weight_of all)) (shown_by told fell v all)
    wanting_on x =
        let e = weight_behind w d out stand in let b = more_bytes w (weight_of stand) in
        wanting_more before (8 * top + bytes_for w) (8 * top + bytes_for (weight_of all)) (told_all told v out) (shown_by told fell v all) (subst (λ n. 8 * top + bytes_for w ≤ 8 * top + bytes_for n) (sym e) (omega (arith, b))) shows_on_all x

  -- ---- a step, and what comes after it

  module _ (before : Called W) (left top : ℕ) (v : W) (w : ℕ) (out : List Bytes) (world : World) (s : State) (mv : Mv before left top v w out world s) where
    abbrev after : Called W
    after = rest_of plan link table sees context pages m host told fell prints_of unit_steps total roof mv.held.here s.code mv.to mv.turn

    world_is : (o : List Bytes) → told_all told mv.to.store.world o ≡ told_all told v (out ++ o)
    world_is o = ap (λ u. told_all told u o) mv.shown ∙ told_more told v out o

    stands_back : (n d : ℕ) (stand : Stand State Waiting) → As after mv.to.left mv.end mv.to.store.world n stand → As before left top v (suc n) (behind w d out stand)
    stands_back n d (Still weight deep o world s) r =
        let q = spread unit_steps w weight in let b = more_bytes w weight in
        record {
          to = r.to;
          ghost = r.ghost;
          end = r.end;
          held = r.held;
          turn = r.turn;
          same = mv.same ∙ r.same;
          steps = mv.steps + r.steps;
          count = let i = mv.count in let j = r.count in omega (arith, i, j);
          some = let i = mv.some in let j = r.some in omega (arith, i, j);
          few = let i = mv.few in let j = r.few in omega (arith, i, j, q);
          bytes = let i = mv.bytes in let j = r.bytes in omega (arith, i, j, b);
          shown = r.shown ∙ world_is o;
        }
    stands_back n d (Over weight deep o world (Replies x)) r =
        let q = spread unit_steps w weight in let b = more_bytes w weight in
        record {
          rest = r.rest;
          store = r.store;
          word = r.word;
          ghost = r.ghost;
          end = r.end;
          same = mv.same ∙ r.same;
          rep = r.rep;
          heap = r.heap;
          names = r.names;
          groups = r.groups;
          table_is = r.table_is;
          fewer = let i = mv.count in let j = r.fewer in omega (arith, i, j);
          few = let i = mv.count in let j = mv.few in let k = r.few in omega (arith, i, j, k, q);
          bytes = let i = mv.bytes in let j = r.bytes in omega (arith, i, j, b);
          shown = r.shown ∙ world_is o;
        }
    stands_back n d (Over weight deep o world (Traps text)) r = record { store = r.store; same = mv.same ∙ r.same; world = r.world ∙ ap (λ u. fell u text) (world_is o) }
    stands_back n d (Over weight deep o world (Rejects error)) r = tt
    stands_back n d (Over weight deep o world (Waits on waiting)) r = tt
    stands_back n d (Over weight deep o world Breaks) r = tt

    back : (n d : ℕ) (stand : Stand State Waiting) → To after mv.to.left mv.end mv.to.store.world n stand → To before left top v (suc n) (behind w d out stand)
    back n d stand (inl r) = inl (stands_back n d stand r)
    back n d stand (inr (inl x)) = inr (inl (
        record {
          store = x.store;
          same = mv.same ∙ x.same;
          few = subst (λ k. left < So k) (sym (weight_behind w d out stand)) (let q = spread unit_steps w (weight_of stand) in let l = x.few in let i = mv.count in let j = mv.few in omega (arith, q, l, i, j));
          part = subst (λ u. ShowsMore prints_of x.store.world u) (ap (λ u. shown_by told fell u stand) mv.shown ∙ shown_behind told fell v w d out stand) x.part;
        }))
    back n d stand (inr (inr x)) = inr (inr (
        record {
          store = x.store;
          same = mv.same ∙ x.same;
          refused = x.refused;
          lacks = subst (λ k. roof < 8 * top + bytes_for k) (sym (weight_behind w d out stand)) (let b = more_bytes w (weight_of stand) in let l = x.lacks in let i = mv.bytes in omega (arith, b, l, i));
          part = subst (λ u. ShowsMore prints_of x.store.world u) (ap (λ u. shown_by told fell u stand) mv.shown ∙ shown_behind told fell v w d out stand) x.part;
        }))

  module _ (keep : AllKeep plan told fell unit_steps context.head pages roof m host link) (allocates : AllocationKeeps pages m host link) (low_roof : roof ≤ heap_end) (has_pages : pages_for roof ≤ pages)
      (are : FunctionsAre plan link table sees context.globals m program) where
    abbrev R : (s : State) (here : Here) (c : Place W) → Turn s.code c → Called W
    R s here c turn = rest_of plan link table sees context pages m host told fell prints_of unit_steps total roof here s.code c turn

    abbrev Followed : ℕ → Type 0
    Followed n =
        (world : World) (s : State) (g : Ghost) (c : Place W) (top : ℕ) (h : Held plan link table sees context total g world s c top) (turn : Turn s.code c) → AskedFor program context n world s → words_for (deepest (walk program context n world s)) ≤ total
        → To (R s h.here c turn) c.left top c.store.world n (walk program context n world s)

    first_words : (b : ℕ) (cost : Cost) → words_for (b + 16 * cost.levels) ≤ total → words_for b + words_for_levels cost.levels ≤ total
    first_words b cost k = omega (arith, k)

    abbrev then_run : ℕ → ℕ → Did → Stand State Waiting
    then_run n below x = after_step (run (code_machine program) context n) below 0 0 [] x

    abbrev M : Called W → ℕ → ℕ → ℕ → W → Did → Type 0
    M before left top below v x = Matches plan link table sees context pages m host told fell prints_of unit_steps total roof before left top below v x

    -- the step goes on
    on_from : (n : ℕ) → Followed n → (before : Called W) (left top d : ℕ) (v : W) (cost : Cost) (out : List Bytes) (world : World) (s : State) → AskedFor program context n world s → words_for (deepest (walk program context n world s)) ≤ total
        → Mv before left top v cost.weight out world s ⊎ Lacks plan link table sees context pages m host told fell prints_of unit_steps total roof before left top cost.weight (told_all told v out)
        → To before left top v (suc n) (behind cost.weight d out (walk program context n world s))
    on_from n ih before left top d v cost out world s known words (inl mv) =
        back before left top v cost.weight out world s mv n d (walk program context n world s) (ih world s mv.ghost mv.to mv.end mv.held mv.turn known words)
    on_from n ih before left top d v cost out world s known words (inr (inl x)) = inr (inl (short_on before left top v cost.weight d out (walk program context n world s) x))
    on_from n ih before left top d v cost out world s known words (inr (inr x)) = inr (inr (wanting_on before left top v cost.weight d out (walk program context n world s) x))

    onward : (n : ℕ) → Followed n → (before : Called W) (left top below : ℕ) (v : W) (x : Did) → M before left top below v x → Quiet x → AskedThen program context (AskedFor program context n) x → words_for (deepest (then_run n below x)) ≤ total
        → To before left top v (suc n) (then_run n below x)
    onward n ih before left top below v (Go cost out world s) match q known words =
        let d : ℕ = deep_with below cost in
        let stand : Stand State Waiting = walk program context n world s in
        let is = gone (code_machine program) context n below cost out world s in
        let deep : words_for (deepest (behind cost.weight d out stand)) ≤ total = subst (λ stand. words_for (deepest stand) ≤ total) is words in
        let a = deepest_behind cost.weight d out stand in
        let b = deepest_after cost.weight d out stand in
        let c = covers program context n world s in
        subst (To before left top v (suc n)) (sym is)
        (on_from n ih before left top d v cost out world s known (omega (arith, b, deep)) (match (first_words below cost (omega (arith, a, deep))) (omega (arith, b, c, deep))))
    onward n ih before left top below v (Ends cost out world (Replies x)) match q known words =
        subst (λ o. To before left top v (suc n) (Over (0 + cost.weight) (max 0 (deep_with below cost)) o world (Replies x))) (sym q)
        (subst (λ w. To before left top v (suc n) (Over w (max 0 (deep_with below cost)) [] world (Replies x))) (sym (zero_first cost.weight)) (match))
    onward n ih before left top below v (Ends cost out world (Traps text)) match q known words =
        subst (λ o. To before left top v (suc n) (Over (0 + cost.weight) (max 0 (deep_with below cost)) o world (Traps text))) (sym q)
        (subst (λ w. To before left top v (suc n) (Over w (max 0 (deep_with below cost)) [] world (Traps text))) (sym (zero_first cost.weight)) (match (first_words below cost (omega (arith, words)))))
    onward n ih before left top below v (Ends cost out world (Rejects error)) match q known words = inl tt
    onward n ih before left top below v (Ends cost out world (Waits on waiting)) match q known words = inl tt
    onward n ih before left top below v (Ends cost out world Breaks) match q known words = inl tt

    -- A whole run.
    pub runs : (n : ℕ) → Followed n
    runs zero world s g c top h turn known words = inl (
        record {
          to = c;
          ghost = g;
          end = top;
          held = h;
          turn = turn;
          same = refl;
          steps = 0;
          count = omega arith;
          some = omega arith;
          few = omega arith;
          bytes = omega arith;
          shown = refl;
        })
    runs (suc n) world s g c top h turn known words =
        onward n (runs n) (R s h.here c turn) c.left top (depth s) c.store.world (step program context world s)
        (steps_followed W plan link table sees program context pages m host told fell prints_of unit_steps total roof run_out keep allocates low_roof has_pages are world s g c top h turn known.0) (quiet program context world s) known.1 words

pub runs_followed : (W : Type 0) → RunsAreFollowed W
runs_followed W plan link table sees program context pages m host told fell prints_of unit_steps total roof run_out keep allocates low_roof has_pages are turns world s g c top h turn asked words =
    runs plan link table sees program context pages m host told fell prints_of unit_steps total roof run_out keep allocates low_roof has_pages are turns world s g c top h turn asked words
