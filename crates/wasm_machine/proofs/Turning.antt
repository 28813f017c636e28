-- A turn keeps what the run stands for.
use Rattle.std.proofs.Common.{◌≡◌, ℕ, ◌+◌, ◌-◌, ◌<◌, ◌≤◌, Bool, true, false, List, [], ◌∷◌, length, drop, Option, Some, None, Result, Ok, Err, refl, sym, ap, ◌∙◌, subst, arith, append-nil, cond, length-take, length-drop}
use Rattle.std.specs.Prelude.{slice_get}
use Rattle.wasm_tree.specs.declared.trap.Trap.{Trap}
use Rattle.wasm_tree.specs.declared.trap.Trap.TheVariants as trap
use Rattle.wasm_tree.specs.Exec.{State, Calls, type_of, same_type, entry}
use Rattle.wasm_steps.specs.declared.step.Step.{Step}
use Rattle.wasm_steps.specs.Moves.{Final, Done, Trapped, Next, Over, Asks, Seeks}
use Rattle.wasm_steps.specs.Follow.{Frugal, Stands, Good}
use Rattle.wasm_steps.specs.Calls.{Frame, invoke, Linked, Runs}
use Rattle.wasm_steps.proofs.Depth.{frugal}
use Rattle.wasm_machine.specs.declared.activate.End.{End}
use Rattle.wasm_machine.specs.Active.{Active, next_of}
use Rattle.wasm_steps.proofs.Frames.{finished, trapped, returned, missing, mistyped, found}
use Rattle.wasm_machine.specs.declared.frames.Saved.{Saved}
use Rattle.wasm_machine.specs.declared.frames.Here.{Here}
use Rattle.wasm_machine.specs.declared.call.Stop.{Stop}
use Rattle.wasm_machine.specs.declared.call.Stop.TheVariants as stop
use Rattle.wasm_machine.specs.declared.turn.Turn.{Turn}
use Rattle.wasm_machine.specs.Hosts.{Reply, HostCall, Play, played}
use Rattle.wasm_machine.specs.Acts.{Given, Parts, page_bound, store_of, state_of}
use Rattle.wasm_machine.specs.Stacks.{saved_list, frames_under, locals_of, operands_of, IsStacked, AgreeBelow, IsCaller}
use Rattle.wasm_machine.specs.Running.{Machine, play, with_world, RunsAt, AsksAt, GoesOn, Comes, IsReady, sought}
use Rattle.wasm_machine.specs.Turns.{Turned, IsLess, IsFit, goes}
use Rattle.wasm_machine.proofs.Tops.{length_tops}
use Rattle.wasm_machine.proofs.Cells.{frames_agree}
use Rattle.wasm_machine.proofs.Comes.{runs_like}
use Rattle.wasm_machine.proofs.Callees.{some_same}

-- nothing is logged
pub no_log : {S : Type 0} → (replies : S → ℕ → List ℕ → List ℕ → Reply → S → Type 0) (before after : S) (made : List HostCall) (whole : List Reply → Final Play) (P : List Reply → Final Play → Play → Type 0) → before ≡ after → ((rest : List Reply) → P rest (whole rest) (play made rest)) → GoesOn replies before after made whole P
no_log replies before after made whole P same h = record {
  log = [];
  chain = same;
  on = λ rest. subst (λ (x : Play). P rest (whole rest) x) (ap (λ l. play l rest) (sym (append-nil made))) (h rest);
}

-- a call that comes to something is a turn
goes_turned : {S : Type 0} → (replies : S → ℕ → List ℕ → List ℕ → Reply → S → Type 0) (before after : S) (made : List HostCall) (whole : List Reply → Final Play) (k : Machine) (steps : List Step) (last : Here) (saved : List Saved) (cells : List ℕ) (left : ℕ) (p : Parts) (r : Result Here Stop) → Comes replies before after made whole k steps saved cells left p r → Turned replies before after made whole k steps last saved cells p (goes r left)
goes_turned replies before after made whole k steps last saved cells left p (Ok next) h = h
goes_turned replies before after made whole k steps last saved cells left p (Err (stop.Trapped cause)) h = h
goes_turned replies before after made whole k steps last saved cells left p (Err stop.Memory) h = h

pub comes_turned : {S : Type 0} → (replies : S → ℕ → List ℕ → List ℕ → Reply → S → Type 0) (before after : S) (made : List HostCall) (whole : List Reply → Final Play) (k : Machine) (steps : List Step) (last : Here) (saved : List Saved) (cells : List ℕ) (left : ℕ) (p : Parts) (r : Result Here Stop) (t : Result Turn Stop) → t ≡ goes r left → Comes replies before after made whole k steps saved cells left p r → Turned replies before after made whole k steps last saved cells p t
comes_turned replies before after made whole k steps last saved cells left p r t e h =
    subst (λ (x : Result Turn Stop). Turned replies before after made whole k steps last saved cells p x) (sym e) (goes_turned replies before after made whole k steps last saved cells left p r h)

abbrev pub IsReadyIf : Here → List Saved → List ℕ → Result Here Stop → Type 0
IsReadyIf here saved cells (Ok next) = IsReady here saved cells next
IsReadyIf here saved cells (Err e) = Unit {0}

pub less_on : (here : Here) (saved : List Saved) (cells : List ℕ) (limit left : ℕ) (r : Result Here Stop) → left < limit → IsReadyIf here saved cells r → IsLess here limit (goes r left)
less_on here saved cells limit left (Ok next) less ready = let d = ready.2 in omega arith
less_on here saved cells limit left (Err e) less ready = tt

pub fit_on : (here : Here) (saved : List Saved) (cells : List ℕ) (left : ℕ) (r : Result Here Stop) → IsReadyIf here saved cells r → IsFit here saved cells (goes r left)
fit_on here saved cells left (Ok next) ready = (ready.0, ready.1)
fit_on here saved cells left (Err e) ready = tt

module _ (k : Machine) (steps : List Step) (whole : Final Play) (world : Play) (saved : List Saved) (cells written : List ℕ) (here : Here) (left : ℕ) (p after : Parts) (r : RunsAt k steps whole world saved cells here left p) (low : AgreeBelow here.base written cells) (stacked : IsStacked saved cells here) where
  abbrev Fine : Next Play → Type 0
  Fine next = Good k.limits k.within (invoke k.limits k.within played here.room) steps here.count here.height r.keep r.here next

  abbrev now : ℕ → State Play
  now rest = state_of (with_world k world) rest (locals_of here written) after

  same_frames : frames_under saved here cells ≡ frames_under saved here written
  same_frames = sym (frames_agree (saved_list saved here.depth) written cells here.base _ _ stacked.callers low)

  -- the same run, with its frames as they are now
  abbrev refit : (fs : List Frame) → frames_under saved here cells ≡ fs → Runs k.limits k.within played steps whole fs here.room here.count here.height here.place (state_of (with_world k world) left (locals_of here cells) p) (operands_of here cells here.held)
  refit fs e = record {
    callers = r.callers;
    here = r.here;
    means = r.means;
    keep = r.keep;
    few = r.few;
    stands = r.stands;
    linked = subst (λ (x : List Frame). Linked k.limits k.within played steps r.callers x r.keep) e r.linked;
  }

  pub asks_at : (f place rest held : ℕ) → Fine (Asks f place (now rest) (operands_of here written held)) → AsksAt k steps whole world saved written here rest after f place held
  asks_at f place rest held good = record {
    from = here.place;
    before = state_of (with_world k world) left (locals_of here cells) p;
    operands = operands_of here cells here.held;
    runs = refit (frames_under saved here written) same_frames;
    waits = good;
  }

  pub found_at : (x at place rest held f : ℕ) → Fine (Seeks x at place (now rest) (operands_of here written held)) → sought k.within x (entry (slice_get k.table at)) ≡ Some f → AsksAt k steps whole world saved written here rest after f place held
  found_at x at place rest held f good e = by_entry (entry (slice_get k.table at)) refl e
    where
      runs : Runs k.limits k.within played steps whole (frames_under saved here written) here.room here.count here.height here.place (state_of (with_world k world) left (locals_of here cells) p) (operands_of here cells here.held)
      runs = refit (frames_under saved here written) same_frames

      by_entry : (o : Option ℕ) → entry (slice_get k.table at) ≡ o → sought k.within x o ≡ Some f → AsksAt k steps whole world saved written here rest after f place held
      by_entry None is e = absurd (grind (arith, e))
      by_entry (Some n) is e = by_type (same_type (type_of k.within n) (slice_get k.within.types x)) refl e
        where
          by_type : (b : Bool) → same_type (type_of k.within n) (slice_get k.within.types x) ≡ b → cond b (Some n) None ≡ Some f → AsksAt k steps whole world saved written here rest after f place held
          by_type false same e = absurd (grind (arith, e))
          by_type true same e =
              let w = found k.limits k.within played steps whole (frames_under saved here written) here.room here.count here.height here.place _ _ (refit (frames_under saved here written) same_frames) x at place (now rest) (operands_of here written held) good n is same in
              subst (λ (i : ℕ). AsksAt k steps whole world saved written here rest after i place held) (some_same n f e) (asks_at n place rest held w)

  pub nothing_at : (x at place rest held : ℕ) → Fine (Seeks x at place (now rest) (operands_of here written held)) → sought k.within x (entry (slice_get k.table at)) ≡ None → Trapped trap.Indirect (store_of (with_world k world) after) ≡ whole
  nothing_at x at place rest held good e = by_entry (entry (slice_get k.table at)) refl e
    where
      by_entry : (o : Option ℕ) → entry (slice_get k.table at) ≡ o → sought k.within x o ≡ None → Trapped trap.Indirect (store_of (with_world k world) after) ≡ whole
      by_entry None is e = missing k.limits k.within played steps whole (frames_under saved here written) here.room here.count here.height here.place _ _ (refit (frames_under saved here written) same_frames) x at place (now rest) (operands_of here written held) good is
      by_entry (Some n) is e = by_type (same_type (type_of k.within n) (slice_get k.within.types x)) refl e
        where
          by_type : (b : Bool) → same_type (type_of k.within n) (slice_get k.within.types x) ≡ b → cond b (Some n) None ≡ None → Trapped trap.Indirect (store_of (with_world k world) after) ≡ whole
          by_type true same e = absurd (grind (arith, e))
          by_type false same e = mistyped k.limits k.within played steps whole (frames_under saved here written) here.room here.count here.height here.place _ _ (refit (frames_under saved here written) same_frames) x at place (now rest) (operands_of here written held) good n is same

  pub trapped_at : (cause : Trap) → Fine (Over (Trapped cause (store_of (with_world k world) after))) → Trapped cause (store_of (with_world k world) after) ≡ whole
  trapped_at cause good = trapped k.limits k.within played steps whole (frames_under saved here cells) here.room here.count here.height here.place _ _ r cause (store_of (with_world k world) after) good.0

  pub done_at : (rest held : ℕ) → here.depth ≡ 0 → Fine (Over (Done rest (store_of (with_world k world) after) (operands_of here written held))) → Done rest (store_of (with_world k world) after) (operands_of here written held) ≡ whole
  done_at rest held bottom good =
      finished k.limits k.within played steps whole here.room here.count here.height here.place _ _ (refit [] (ap (λ (n : ℕ). frames_under saved (record { place = here.place; base = here.base; count = here.count; height = here.height; room = here.room; held = here.held; depth = n }) cells) bottom)) (Done rest (store_of (with_world k world) after) (operands_of here written held)) good

  pub few_results : (rest held : ℕ) → Fine (Over (Done rest (store_of (with_world k world) after) (operands_of here written held))) → held ≤ 1
  few_results rest held good = let e : held ≡ r.keep = sym (length_tops (drop (here.base + here.count) written) held) ∙ good.1 in let f = r.few in omega arith

  pub returned_at : (rest held : ℕ) (next : Here) (given : List ℕ) → Fine (Over (Done rest (store_of (with_world k world) after) (operands_of here written held))) → IsCaller saved here next written given (operands_of here written held) → RunsAt k steps whole world saved given next rest after
  returned_at rest held next given good caller =
      let runs = returned k.limits k.within played steps whole caller.frame (frames_under saved next given) here.room here.count here.height here.place _ _ (refit (caller.frame ∷ frames_under saved next given) (same_frames ∙ caller.frames)) rest (store_of (with_world k world) after) (operands_of here written held) good in
      runs_like k.limits k.within steps whole (frames_under saved next given) (frames_under saved next given) _ next.room _ next.count _ next.height _ next.place rest (store_of (with_world k world) after) _ (locals_of next given) _ (operands_of next given next.held) refl caller.room caller.count caller.height caller.place caller.locals caller.operands runs

  -- what the activation comes to
  pub good_at : (given : List Step) → given ≡ steps → (most : ℕ) → page_bound (with_world k world) ≡ most → (end : End) → ((g : Given) (calls : Calls Play) (frugal : Frugal calls) (height keep : ℕ) (w : Final Play) → page_bound g ≡ most → Stands g.limits g.within calls given here.count height keep w here.place (state_of g left (locals_of here cells) p) (operands_of here cells here.held) → Good g.limits g.within calls given here.count height keep w (next_of g end (locals_of here written) after (operands_of here written))) → Fine (next_of (with_world k world) end (locals_of here written) after (operands_of here written))
  good_at given e most bound end ends =
      let calls = invoke k.limits k.within played here.room in
      let s = subst (λ (l : List Step). Stands k.limits k.within calls l here.count here.height r.keep r.here here.place (state_of (with_world k world) left (locals_of here cells) p) (operands_of here cells here.held)) (sym e) r.stands in
      subst (λ (l : List Step). Good k.limits k.within calls l here.count here.height r.keep r.here (next_of (with_world k world) end (locals_of here written) after (operands_of here written))) e (ends (with_world k world) calls (frugal k.limits k.within played here.room) here.height r.keep r.here bound s)

-- an activation that may run
pub active_at : (k : Machine) (steps given : List Step) (whole : Final Play) (world : Play) (saved : List Saved) (cells : List ℕ) (here : Here) (left most : ℕ) (p : Parts) → RunsAt k steps whole world saved cells here left p → IsStacked saved cells here → given ≡ steps → page_bound (with_world k world) ≡ most → length k.within.globals ≡ length p.globals → Active given (length cells - (here.base + here.count)) most here.place left (locals_of here cells) p (operands_of here cells here.held)
active_at k steps given whole world saved cells here left most p r stacked e bound named =
    let calls = invoke k.limits k.within played here.room in
    let count : here.count ≡ length (locals_of here cells) = let f = stacked.fits in omega (arith, length-take here.count (drop here.base cells), length-drop here.base cells) in
    let s = subst (λ (l : List Step). Stands k.limits k.within calls l here.count here.height r.keep r.here here.place (state_of (with_world k world) left (locals_of here cells) p) (operands_of here cells here.held)) (sym e) r.stands in
    record {
      g = with_world k world;
      calls = calls;
      frugal = frugal k.limits k.within played here.room;
      height = here.height;
      keep = r.keep;
      whole = r.here;
      bound = bound;
      named = named;
      fits = (let f = stacked.fits in omega arith);
      few = r.few;
      stands = subst (λ (n : ℕ). Stands k.limits k.within calls given n here.height r.keep r.here here.place (state_of (with_world k world) left (locals_of here cells) p) (operands_of here cells here.held)) count s;
    }
