-- Calls of functions of bodies, under any limits.
use Rattle.std.proofs.Common.{◌≡◌, ◌⊎◌, inl, inr, ℕ, zero, suc, ◌+◌, ◌*◌, ◌<◌, ◌≤◌, ◌^◌, List, ◌∷◌, length, max, Option, Some, refl, sym, ◌∙◌, subst, arith}
use Rattle.std.proofs.Math.Nat.{mul-le-mul_left}
use Rattle.mo_values.specs.Shapes.{Bytes}
use Rattle.wasm_tree.specs.declared.trap.Trap.{Trap}
use Rattle.wasm_tree.specs.declared.trap.Trap.TheVariants as trap
use Rattle.wasm_tree.specs.Exec.{Store}
use Rattle.ic0_world.specs.declared.world.World.{World as HostWorld}
use Rattle.module_laws.specs.Prints.{IsLater}
use Rattle.core_ir.specs.Values.{Value}
use Rattle.core_ir.specs.Worlds.{World, Context}
use Rattle.core_ir.specs.Executions.{End, Replies, Rejects, Waits, Traps, Breaks, Go, Ends, Stand, Still, Over}
use Rattle.core_ir.specs.Code.{Body, CodeProgram}
use Rattle.core_ir.specs.CodeMachine.{State, Waiting, Did, step}
use Rattle.low_ir.specs.Tree.{Module}
use Rattle.low_ir.specs.Meaning.{Called, Gave, Fell}
use Rattle.low_ir.specs.Frames.{enter}
use Rattle.low_execution.specs.Host.{low_host}
use Rattle.low_limits.proofs.Later.{CallIsLater}
use Rattle.memory_routines.specs.Heaps.{heap_end, pages_for}
use Rattle.heap_layout.specs.Ghosts.{Ghost}
use Rattle.heap_layout.specs.Means.{Reps}
use Rattle.heap_layout.specs.Heaps.{Plan}
use Rattle.heap_layout.specs.Table.{words_beside}
use Rattle.flat_emission.specs.Emission.{Linkage}
use Rattle.emitted_steps.specs.Operations.{AllKeep, AllocationKeeps, HeapHeld, told_all}
use Rattle.emitted_steps.specs.Shortage.{ShowsMore}
use Rattle.emitted_steps.specs.States.{NamesAt, BlockAt, GroupsSee, words_for}
use Rattle.emitted_steps.specs.Modules.{FunctionsAre}
use Rattle.emitted_steps.specs.Steps.{own_steps, Lacks}
use Rattle.emitted_runs.specs.Runs.{AskedThen, AskedFor, weight_of, deep_of, deepest, shown_by, RunsTo}
use Rattle.emitted_runs.specs.Bodies.{first_state, BodyAt}
use Rattle.emitted_runs.proofs.Runs.{walk, shows_on, shows_same}
use Rattle.emitted_runs.proofs.Growing.{IsOver, GoesOn, goes_on}
use Rattle.emitted_runs.proofs.Entered.{bodies_entered}
use Rattle.limited_runs.specs.Shown.{told, fell, prints_of}
use Rattle.limited_runs.specs.Cuts.{IsCutOff, EndsWithin}
use Rattle.limited_runs.specs.Laws.{BodiesEndWithinLimits}
use Rattle.limited_runs.proofs.RunsOut.{runs_out}
use Rattle.limited_runs.proofs.Beside.{LacksStack, beside_calls}

whole_pages : (pages : ℕ) → pages_for (65536 * pages) ≤ pages
whole_pages pages = omega arith

below_end : (pages : ℕ) → pages ≤ 65535 → 65536 * pages ≤ heap_end
below_end pages le = omega (arith, le)

shows : (a b : HostWorld) → IsLater a b → ShowsMore prints_of a b
shows a b l = record { more = l.more; is = l.is }

shows_to : (a b : HostWorld) → a ≡ b → ShowsMore prints_of a b
shows_to a b e = subst (λ b. ShowsMore prints_of a b) e (shows_same prints_of a)

module _ (plan : Plan) (link : Linkage) (table : List (Option ℕ)) (sees : ℕ → ℕ) (context : Context) (m : Module) (unit_steps left pages room top : ℕ) (w : HostWorld) (b : Stand State Waiting) where
  abbrev total : ℕ
  total = words_for (deep_of b)

  abbrev large : ℕ
  large = max room (total + words_beside)

  abbrev Cut : Called HostWorld → Type 0
  Cut o = IsCutOff unit_steps left pages room top (weight_of b) (deep_of b) o (shown_by told fell w b)

  abbrev Beside : Called HostWorld → Called HostWorld → Type 0
  Beside o a = (o ≡ a) ⊎ LacksStack room large o a

  -- Stack words were lacking beside a call that ends in this world.
  stack_cut : (o a : Called HostWorld) (end : HostWorld) → ((v : HostWorld) → CallIsLater v a → IsLater v end) → ShowsMore prints_of end (shown_by told fell w b) → LacksStack room large o a → Cut o
  stack_cut o a end in_end part l = record {
    cause = trap.Stack;
    store = l.store;
    is = l.is;
    want = let k = l.less in omega (arith, k);
    part = shows_on prints_of l.store.world end (shown_by told fell w b) (shows l.store.world end (in_end l.store.world l.later)) part;
  }

  gave_later : (a : Called HostWorld) (rest : ℕ) (store : Store HostWorld) (value : Option ℕ) → a ≡ Gave rest store value → (v : HostWorld) → CallIsLater v a → IsLater v store.world
  gave_later a rest store value e v l = subst (λ a. CallIsLater v a) e l

  fell_later : (a : Called HostWorld) (cause : Trap) (store : Store HostWorld) → a ≡ Fell cause store → (v : HostWorld) → CallIsLater v a → IsLater v store.world
  fell_later a cause store e v l = subst (λ a. CallIsLater v a) e l

  -- The call lacked steps or memory for a run that came no further.
  lacks_cut : (o called : Called HostWorld) (a : Stand State Waiting) → weight_of a ≤ weight_of b → ShowsMore prints_of (shown_by told fell w a) (shown_by told fell w b)
      → Lacks plan link table sees context pages m low_host told fell prints_of unit_steps total (65536 * pages) called left top (weight_of a) (shown_by told fell w a) → Beside o called → Cut o
  lacks_cut o called a le more (inl short) (inl e) = record {
    cause = trap.Steps;
    store = short.store;
    is = e ∙ short.same;
    want = let k = mul-le-mul_left {m = weight_of a} {n = weight_of b} (own_steps + unit_steps) le in let l = short.few in omega (arith, k, l);
    part = shows_on prints_of short.store.world (shown_by told fell w a) (shown_by told fell w b) short.part more;
  }
  lacks_cut o called a le more (inl short) (inr l) =
      stack_cut o called short.store.world (fell_later called trap.Steps short.store short.same) (shows_on prints_of short.store.world (shown_by told fell w a) (shown_by told fell w b) short.part more) l
  lacks_cut o called a le more (inr wanting) (inl e) = record {
    cause = trap.Unreachable;
    store = wanting.store;
    is = e ∙ wanting.same;
    want = (wanting.refused, let l = wanting.lacks in omega (arith, l, le));
    part = shows_on prints_of wanting.store.world (shown_by told fell w a) (shown_by told fell w b) wanting.part more;
  }
  lacks_cut o called a le more (inr wanting) (inr l) =
      stack_cut o called wanting.store.world (fell_later called trap.Unreachable wanting.store wanting.same) (shows_on prints_of wanting.store.world (shown_by told fell w a) (shown_by told fell w b) wanting.part more) l

module _ (plan : Plan) (link : Linkage) (table : List (Option ℕ)) (sees : ℕ → ℕ) (context : Context) (m : Module) (unit_steps left pages room top : ℕ) (w : HostWorld) where
  abbrev To : (called : Called HostWorld) → (turns deep : ℕ) → Stand State Waiting → Type 0
  To called turns deep stand = RunsTo plan link table sees context pages m low_host told fell prints_of unit_steps (words_for deep) (65536 * pages) called left top w turns stand

  abbrev Within : (called : Called HostWorld) → (turns : ℕ) → Stand State Waiting → Type 0
  Within called turns stand = EndsWithin plan link table sees context m unit_steps called left pages room top w turns stand

  -- The machine has come to its end.
  over : (o called : Called HostWorld) (turns weight deep : ℕ) (prints : List Bytes) (world : World) (end : End Waiting) → To called turns deep (Over weight deep prints world end) → Beside plan link table sees context m unit_steps left pages room top w (Over weight deep prints world end) o called
      → Within o turns (Over weight deep prints world end)
  over o called turns weight deep prints world (Replies v) (inl r) (inl e) = inl (
      record {
        rest = r.rest;
        store = r.store;
        word = r.word;
        ghost = r.ghost;
        end = r.end;
        same = e ∙ r.same;
        rep = r.rep;
        heap = r.heap;
        names = r.names;
        groups = r.groups;
        table_is = r.table_is;
        fewer = r.fewer;
        few = r.few;
        bytes = r.bytes;
        shown = r.shown;
      })
  over o called turns weight deep prints world (Replies v) (inl r) (inr l) =
      inr (stack_cut plan link table sees context m unit_steps left pages room top w (Over weight deep prints world (Replies v)) o called r.store.world
      (gave_later plan link table sees context m unit_steps left pages room top w (Over weight deep prints world (Replies v)) called r.rest r.store (Some r.word) r.same) (shows_to r.store.world (told_all told w prints) r.shown) l)
  over o called turns weight deep prints world (Replies v) (inr k) b =
      inr (lacks_cut plan link table sees context m unit_steps left pages room top w (Over weight deep prints world (Replies v)) o called (Over weight deep prints world (Replies v)) (omega arith) (shows_same prints_of (told_all told w prints)) k b)
  over o called turns weight deep prints world (Traps text) (inl r) (inl e) = inl (record { store = r.store; same = e ∙ r.same; world = r.world })
  over o called turns weight deep prints world (Traps text) (inl r) (inr l) =
      inr (stack_cut plan link table sees context m unit_steps left pages room top w (Over weight deep prints world (Traps text)) o called r.store.world
      (fell_later plan link table sees context m unit_steps left pages room top w (Over weight deep prints world (Traps text)) called trap.Host r.store r.same) (shows_to r.store.world (fell (told_all told w prints) text) r.world) l)
  over o called turns weight deep prints world (Traps text) (inr k) b =
      inr (lacks_cut plan link table sees context m unit_steps left pages room top w (Over weight deep prints world (Traps text)) o called (Over weight deep prints world (Traps text)) (omega arith) (shows_same prints_of (fell (told_all told w prints) text)) k b)
  over o called turns weight deep prints world (Rejects error) r b = tt
  over o called turns weight deep prints world (Waits on waiting) r b = tt
  over o called turns weight deep prints world Breaks r b = tt

  -- The machine has made more turns than there are steps, and goes on.
  still : (o called : Called HostWorld) (k : ℕ) (a b : Stand State Waiting) → GoesOn prints_of told fell (λ w text. refl) (λ w text. (runs_out pages m).fails w text) a b → (IsOver b → ⊥) → left < k → To called k (deep_of b) a
      → Beside plan link table sees context m unit_steps left pages room top w b o called → IsCutOff unit_steps left pages room top (weight_of b) (deep_of b) o (shown_by told fell w b)
  still o called k (Still weight deep prints world s) b g on lt (inl r) near = let i = r.some in let j = r.count in absurd (omega (arith, lt, i, j))
  still o called k (Over weight deep prints world end) b g on lt (inl r) near = absurd (on (subst IsOver (g.over tt) tt))
  still o called k a b g on lt (inr l) near = lacks_cut plan link table sees context m unit_steps left pages room top w b o called a g.weight (g.shows w) l near

-- What is asked for a turn more is asked.
module _ (program : CodeProgram) (context : Context) where
  asked_then : (n : ℕ) → ((world : World) (s : State) → AskedFor program context (suc n) world s → AskedFor program context n world s) → (x : Did) → AskedThen program context (AskedFor program context (suc n)) x → AskedThen program context (AskedFor program context n) x
  asked_then n ih (Go cost out world s) h = ih world s h
  asked_then n ih (Ends cost out world end) h = tt

  asked_fewer : (n : ℕ) (world : World) (s : State) → AskedFor program context (suc n) world s → AskedFor program context n world s
  asked_fewer zero world s h = tt
  asked_fewer (suc n) world s h = (h.0, asked_then n (asked_fewer n) (step program context world s) h.1)

module _ (plan : Plan) (link : Linkage) (table : List (Option ℕ)) (sees : ℕ → ℕ) (program : CodeProgram) (context : Context) (m : Module) (unit_steps pages : ℕ) (few : pages ≤ 65535)
    (keep : AllKeep plan told fell unit_steps context.head pages (65536 * pages) m low_host link) (allocates : AllocationKeeps pages m low_host link) (are : FunctionsAre plan link table sees context.globals m program)
    (members group block : ℕ) (seen : List Value) (b : Body) (e : BodyAt plan link table sees context.globals m members (length seen) b) (world : World) (g : Ghost) (top : ℕ) (store : Store HostWorld) (heap : HeapHeld plan g world store top)
    (names : NamesAt g store.memory link.names link.hidden context.globals) (groups : GroupsSee sees world) (table_is : store.table ≡ table) (low : 8 * block < 2 ^ 32) (at_block : BlockAt g store.memory block members group seen)
    (ws : List ℕ) (vs : List Value) (reps : Reps g store.memory ws vs) (arity : length vs ≡ b.parameters) (calls room left : ℕ) (lt : room < calls) where
  abbrev s : State
  s = first_state b group seen vs

  abbrev called : ℕ → Called HostWorld
  called deep = enter (suc (max room (words_for deep + words_beside))) pages m low_host (max room (words_for deep + words_beside)) e.number left store (8 * block ∷ ws)

  abbrev o : Called HostWorld
  o = enter calls pages m low_host room e.number left store (8 * block ∷ ws)

  -- with stack words for a depth
  amply : (turns deep : ℕ) → AskedFor program context turns world s → words_for (deepest (walk program context turns world s)) ≤ words_for deep
      → To plan link table sees context m unit_steps left pages room top store.world (called deep) turns deep (walk program context turns world s)
  amply turns deep asked words =
      bodies_entered HostWorld plan link table sees program context pages m low_host told fell prints_of unit_steps (words_for deep) (65536 * pages) (runs_out pages m) keep allocates (below_end pages few) (whole_pages pages) are
      members group block seen b e world g top store heap names groups table_is low at_block ws vs reps arity (max room (words_for deep + words_beside)) (max room (words_for deep + words_beside)) (omega arith) (omega arith) turns left asked words

  near : (b : Stand State Waiting) → Beside plan link table sees context m unit_steps left pages room top store.world b o (called (deep_of b))
  near b =
      beside_calls m pages room (max room (words_for (deep_of b) + words_beside)) (omega arith) calls (suc (max room (words_for (deep_of b) + words_beside))) e.number left store (8 * block ∷ ws) lt (omega arith)

  by : (turns : ℕ) → AskedFor program context turns world s → (b : Stand State Waiting) → walk program context turns world s ≡ b → Within plan link table sees context m unit_steps left pages room top store.world o turns b
  by turns asked (Over weight deep out after end) is =
      over plan link table sees context m unit_steps left pages room top store.world o (called deep) turns weight deep out after end
      (subst (λ b. To plan link table sees context m unit_steps left pages room top store.world (called deep) turns deep b) is (amply turns deep asked (subst (λ b. words_for (deepest b) ≤ words_for deep) (sym is) (omega arith))))
      (near (Over weight deep out after end))
  by zero asked (Still weight deep out after t) is = λ lt. absurd (omega (arith, lt))
  by (suc k) asked (Still weight deep out after t) is = λ lt.
      let goes : GoesOn prints_of told fell (λ w text. refl) (λ w text. (runs_out pages m).fails w text) (walk program context k world s) (Still weight deep out after t) =
      subst (λ b. GoesOn prints_of told fell (λ w text. refl) (λ w text. (runs_out pages m).fails w text) (walk program context k world s) b) is (goes_on prints_of told fell (λ w text. refl) (λ w text. (runs_out pages m).fails w text) program context k world s) in
      still plan link table sees context m unit_steps left pages room top store.world o (called deep) k (walk program context k world s) (Still weight deep out after t) goes (λ h. h) (omega (arith, lt))
      (amply k deep (asked_fewer program context k world s asked) (let d = goes.deep in omega (arith, d))) (near (Still weight deep out after t))

pub ends_within : BodiesEndWithinLimits
ends_within plan link table sees program context m unit_steps pages few keep allocates are members group block seen b e world g top store heap names groups table_is low at_block ws vs reps arity turns asked calls room left lt =
    by plan link table sees program context m unit_steps pages few keep allocates are members group block seen b e world g top store heap names groups table_is low at_block ws vs reps arity calls room left lt turns asked (walk program context turns world (first_state b group seen vs)) refl
