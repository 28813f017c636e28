-- Core's run shows no more than the execution, and ends as it does.
use Rattle.std.proofs.Common.{◌≡◌, ℕ, zero, suc, ◌+◌, ◌*◌, ◌≤◌, Bool, true, false, List, [], ◌++◌, length, refl, sym, ap, ◌∙◌, subst, arith}
use Rattle.std.specs.Prelude.{max, nat_lt, cond}
use Rattle.mo_types.specs.Graph.{head_at}
use Rattle.mo_values.specs.Costs.{weighing}
use Rattle.mo_values.specs.Shapes.{Bytes, Error}
use Rattle.mo_actor.specs.Results.{IsPrefix}
use Rattle.core_ir.specs.Worlds.{World, Context}
use Rattle.core_ir.specs.Executions.{Over, Stand, Machine, Step, Go, after_step, deep_with, run}
use Rattle.core_ir.specs.Executions as execution
use Rattle.core_ir.specs.Expressions.{Core}
use Rattle.core_ir.specs.CoreMachine.{Frame, Focus, State, Waiting, at, core_machine}
use Rattle.mo_actor.specs.Programs.{Rejects}
use Rattle.mo_meaning.specs.Configurations.{Surroundings}
use Rattle.mo_meaning.specs.Turns.{most_bytes, too_long}
use Rattle.mo_machine.specs.Values.{Value, Made, NoValue}
use Rattle.mo_machine.specs.Configurations as configuration
use Rattle.mo_machine.specs.Configurations.{Configuration, Run, Still, Ended, End, weighed}
use Rattle.mo_machine.specs.Turns.{rejects, then_steps, step, steps}
use Rattle.elaboration.proofs.Coming.{assoc}
use Rattle.elaboration_values.specs.Belonging.{Known}
use Rattle.elaboration_steps.specs.Follows.{owed}
use Rattle.elaboration_steps.proofs.Paths as paths
use Rattle.elaboration_runs.specs.Together.{Together}
use Rattle.elaboration_runs.specs.Calling.{Surrounded}
use Rattle.elaboration_runs.specs.Waiting.{Accounted}
use Rattle.elaboration_runs.specs.Whole.{Serves, SameCalls, Reaches, HasPassed}
use Rattle.elaboration_runs.specs.Ending.{Finish, Finishes, Shows, Returned, Thrown, Trapped, Suspended, Asleep, configuration_of, Covers, ExecutionsCover}
use Rattle.elaboration_runs.proofs.OneStep as one
use Rattle.elaboration_runs.proofs.Whole.{no_end, goes_on}

-- ---- runs grow

prefix_more : (prints out later : List Bytes) → IsPrefix (prints ++ out) later → IsPrefix prints later
prefix_more prints out later h = (out ++ (h.0), h.1 ∙ assoc prints out (h.0))

module _ {S W : Type 0} where
  abbrev weight_of : Stand S W → ℕ
  weight_of (execution.Still w d prints world s) = w
  weight_of (Over w d prints world end) = w

  abbrev depth_in : Stand S W → ℕ
  depth_in (execution.Still w d prints world s) = d
  depth_in (Over w d prints world end) = d

  abbrev prints_in : Stand S W → List Bytes
  prints_in (execution.Still w d prints world s) = prints
  prints_in (Over w d prints world end) = prints

  -- no more than later; what is over stays so
  abbrev Below : Stand S W → Stand S W → Type 0
  Below (execution.Still w d prints world s) y = IsPrefix prints (prints_in y) × (w ≤ weight_of y) × (d ≤ depth_in y)
  Below (Over w d prints world end) y = y ≡ Over w d prints world end

  module _ (m : Machine S W) (context : Context) where
    abbrev Grows : (w d : ℕ) (prints : List Bytes) → Stand S W → Type 0
    Grows w d prints y = IsPrefix prints (prints_in y) × (w ≤ weight_of y) × (d ≤ depth_in y)

    grows_by : (n : ℕ) → ((w d : ℕ) (prints : List Bytes) (world : World) (s : S) → Grows w d prints (run m context n w d prints world s)) → (w d : ℕ) (prints : List Bytes) (bodies : ℕ) (r : Step S W) → Grows w d prints (after_step (run m context n) bodies w d prints r)
    grows_by n go w d prints bodies (Go cost out world s) =
        let h = go (w + cost.weight) (max d (deep_with bodies cost)) (prints ++ out) world s in
        let a : w + cost.weight ≤ weight_of (run m context n (w + cost.weight) (max d (deep_with bodies cost)) (prints ++ out) world s) = h.1 in
        let b : max d (deep_with bodies cost) ≤ depth_in (run m context n (w + cost.weight) (max d (deep_with bodies cost)) (prints ++ out) world s) = h.2 in
        (prefix_more prints out _ (h.0), omega (arith, a), omega (arith, b))
    grows_by n go w d prints bodies (execution.Ends cost out world end) = ((out, refl), omega arith, omega arith)

    grows : (n w d : ℕ) (prints : List Bytes) (world : World) (s : S) → Grows w d prints (run m context n w d prints world s)
    grows zero w d prints world s = (([], paths.nothing_more prints), omega arith, omega arith)
    grows (suc n) w d prints world s = grows_by n (grows n) w d prints (m.depth s) (m.step context world s)

    below_by : (n more : ℕ) → ((w d : ℕ) (prints : List Bytes) (world : World) (s : S) → Below (run m context n w d prints world s) (run m context (n + more) w d prints world s)) → (w d : ℕ) (prints : List Bytes) (bodies : ℕ) (r : Step S W)
        → Below (after_step (run m context n) bodies w d prints r) (after_step (run m context (n + more)) bodies w d prints r)
    below_by n more go w d prints bodies (Go cost out world s) = go (w + cost.weight) (max d (deep_with bodies cost)) (prints ++ out) world s
    below_by n more go w d prints bodies (execution.Ends cost out world end) = refl

    pub below : (n more w d : ℕ) (prints : List Bytes) (world : World) (s : S) → Below (run m context n w d prints world s) (run m context (n + more) w d prints world s)
    below zero more w d prints world s = subst (λ i. Below (execution.Still w d prints world s) (run m context i w d prints world s)) (let z : more ≡ 0 + more = omega arith in z) (grows more w d prints world s)
    below (suc n) more w d prints world s =
        subst (λ i. Below (run m context (suc n) w d prints world s) (run m context i w d prints world s)) (let z : suc (n + more) ≡ suc n + more = omega arith in z) (below_by n more (below n more) w d prints (m.depth s) (m.step context world s))

-- ---- ends

module _ (program : Core) (context : Context) (nodes : ℕ) (s : Surroundings) (head_is : context.head ≡ head_at s.types) (same : Surrounded program context nodes s) (accounted : Accounted program context nodes s) where
  abbrev Served : Configuration → Type 0
  Served c = (j : ℕ) (c' : Configuration) → steps s j c ≡ Still c' → Serves c'

  abbrev Whole-run : Configuration → Type 0
  Whole-run c = (j : ℕ) (c' : Configuration) → steps s j c ≡ Ended c' configuration.Breaks → ⊥

  -- the execution has ended after so many steps: so has the run
  abbrev pub IsDone : (known : List Known) (w d : ℕ) (prints : List Bytes) (world : World) (f : Focus) (k : List Frame) → Run → Type 0
  IsDone known w d prints world f k (Still c') = Unit {0}
  IsDone known w d prints world f k (Ended c' end) = Finishes program context nodes known w d prints world f k (Ended c' end)

  joined : (known : List Known) (w d : ℕ) (prints : List Bytes) (world : World) (f : Focus) (k : List Frame) (c1 : Configuration) (a : Reaches program context nodes known w d prints world f k c1) (r : Run)
      → IsDone a.known' a.weight' a.depth' a.prints' a.world' a.f' a.k' r → IsDone known w d prints world f k r
  joined known w d prints world f k c1 a (Still c') b = tt
  joined known w d prints world f k c1 a (Ended c' end) b = record {
    steps = a.steps + b.steps;
    weight' = b.weight';
    depth' = b.depth';
    prints' = b.prints';
    known' = b.known';
    world' = b.world';
    end = b.end;
    by = λ more. ap (λ n. run (core_machine program) context n w d prints world (at program context nodes f k)) (let z : a.steps + b.steps + more ≡ a.steps + (b.steps + more) = omega arith in z) ∙ (a.by (b.steps + more) ∙ b.by more);
    grows = ((a.grows.0) ++ (b.grows.0), b.grows.1 ∙ (ap (λ ks. ks ++ (b.grows.0)) (a.grows.1) ∙ assoc known (a.grows.0) (b.grows.0)));
    finish = b.finish;
  }

  done_as : (known : List Known) (w d : ℕ) (prints : List Bytes) (world : World) (f : Focus) (k : List Frame) (r : Run) → Finishes program context nodes known w d prints world f k r → IsDone known w d prints world f k r
  done_as known w d prints world f k (Still c') o = tt
  done_as known w d prints world f k (Ended c' end) o = o

  abbrev Done : ℕ → Type 0
  Done n =
      (held : ℕ) (known : List Known) (c : Configuration) (w d : ℕ) (prints : List Bytes) (world : World) (f : Focus) (k : List Frame) → Together program context nodes held known c w d prints world f k → SameCalls c.calls world.requests
      → Served c → Whole-run c → IsDone known w d prints world f k (steps s n c)

  done_after : (n : ℕ) → Done n → Done (suc n)
  done_after n go held known c w d prints world f k t calls serves whole = by (step s c) refl (one.outcome program context nodes s head_is same accounted held known c w d prints world f k t calls (serves 0 c refl))
    where
      at : (r : Run) → IsDone known w d prints world f k r → ((c' : Configuration) → r ≡ Still c' → ⊥) → IsDone known w d prints world f k (then_steps s (steps s n) r)
      at (Still c') o none = absurd (none c' refl)
      at (Ended c' end) o none = o

      by : (r : Run) → step s c ≡ r → one.Outcome program context nodes s head_is same accounted held known c w d prints world f k t calls (serves 0 c refl) r → IsDone known w d prints world f k (then_steps s (steps s n) (step s c))
      by r is (one.IsOn c1 x) =
          subst (λ i. IsDone known w d prints world f k (then_steps s (steps s n) i)) (sym is)
          (joined known w d prints world f k c1 (x.0) (steps s n c1)
          (go x.0.held' x.0.known' c1 x.0.weight' x.0.depth' x.0.prints' x.0.world' x.0.f' x.0.k' x.0.together x.0.calls
          (λ j c2 i. serves (suc j) c2 (ap (then_steps s (steps s j)) is ∙ i)) (λ j c2 i. whole (suc j) c2 (ap (then_steps s (steps s j)) is ∙ i))))
      by r is (one.IsOff r' o) =
          subst (λ i. IsDone known w d prints world f k (then_steps s (steps s n) i)) (sym is)
          (at r' (done_as known w d prints world f k r' o)
          (λ c' e. no_end program context nodes s head_is same accounted o.known' o.weight' o.depth' o.prints' o.world' r' o.end c' o.finish e))
      by r is (one.IsBroken c1) = absurd (whole 1 c1 (ap (then_steps s (steps s 0)) is))

  pub done : (n : ℕ) → Done n
  done zero held known c w d prints world f k t calls serves whole = tt
  done (suc n) held known c w d prints world f k t calls serves whole = done_after n (done n) held known c w d prints world f k t calls serves whole

  shown_by : (known : List Known) (w d : ℕ) (prints : List Bytes) (w1 d1 : ℕ) (p1 : List Bytes) → IsPrefix p1 prints → w1 ≤ w → d1 ≤ d → (c c' : Configuration) → c ≡ c' → Shows program context nodes c w d prints
      → IsPrefix p1 c'.prints × (w1 ≤ 2 * c'.weight + owed c'.stack) × (d1 ≤ c'.depth)
  shown_by known w d prints w1 d1 p1 p a b c c' e shows =
      subst (λ (c : Configuration). IsPrefix p1 c.prints × (w1 ≤ 2 * c.weight + owed c.stack) × (d1 ≤ c.depth)) e
      (subst (λ ps. IsPrefix p1 ps) shows.prints_are p, let z : w ≤ 2 * c.weight + owed c.stack = shows.light in omega (arith, z, a), let z : d ≤ c.depth = shows.shallow in omega (arith, z, b))

  -- the error's text is paid for
  thrown_by : (known : List Known) (w d : ℕ) (prints : List Bytes) (w1 d1 : ℕ) (p1 : List Bytes) → IsPrefix p1 prints → w1 ≤ w → d1 ≤ d → (c : Configuration) (error : Value) (c' : Configuration) (end : End) → rejects c error ≡ Ended c' end → Shows program context nodes c w d prints
      → IsPrefix p1 c'.prints × (w1 ≤ 2 * c'.weight + owed c'.stack) × (d1 ≤ c'.depth)
  thrown_by known w d prints w1 d1 p1 p a b c (Made (Error code text) NoValue) c' end is shows = by (nat_lt most_bytes (length text)) is
    where
      c2 : Configuration
      c2 = weighed (weighing (length text)) c

      wider : Shows program context nodes c2 w d prints
      wider = record {
        prints_are = shows.prints_are;
        light = let z : w ≤ 2 * c.weight + owed c.stack = shows.light in omega (arith, z);
        shallow = let z : d ≤ c.depth = shows.shallow in omega (arith, z);
      }

      by : (long : Bool) → cond long (Ended c2 (configuration.Traps too_long)) (Ended c2 (configuration.Responds (Rejects 4 text))) ≡ Ended c' end → IsPrefix p1 c'.prints × (w1 ≤ 2 * c'.weight + owed c'.stack) × (d1 ≤ c'.depth)
      by true e = shown_by known w d prints w1 d1 p1 p a b c2 c' (ap (configuration_of program context nodes) e) wider
      by false e = shown_by known w d prints w1 d1 p1 p a b c2 c' (ap (configuration_of program context nodes) e) wider
  thrown_by known w d prints w1 d1 p1 p a b c _ c' end is shows = shown_by known w d prints w1 d1 p1 p a b c c' (ap (configuration_of program context nodes) is) shows

  shown : (known : List Known) (c' : Configuration) (end : End) (known' : List Known) (w d : ℕ) (prints : List Bytes) (world : World) (last : execution.End Waiting) (w1 d1 : ℕ) (p1 : List Bytes) → IsPrefix p1 prints → w1 ≤ w → d1 ≤ d
      → (r : Run) → r ≡ Ended c' end → Finish program context nodes known' w d prints world r last → IsPrefix p1 c'.prints × (w1 ≤ 2 * c'.weight + owed c'.stack) × (d1 ≤ c'.depth)
  shown known c' end known' w d prints world last w1 d1 p1 p a b r is (Returned c v u shows leaves value) = shown_by known w d prints w1 d1 p1 p a b c c' (ap (configuration_of program context nodes) is) shows
  shown known c' end known' w d prints world last w1 d1 p1 p a b r is (Thrown c error u shows leaves value) = thrown_by known w d prints w1 d1 p1 p a b c error c' end is shows
  shown known c' end known' w d prints world last w1 d1 p1 p a b r is (Trapped c text shows) = shown_by known w d prints w1 d1 p1 p a b c c' (ap (configuration_of program context nodes) is) shows
  shown known c' end known' w d prints world last w1 d1 p1 p a b r is (Suspended c call stack shows leaves stops) = shown_by known w d prints w1 d1 p1 p a b c c' (ap (configuration_of program context nodes) is) shows
  shown known c' end known' w d prints world last w1 d1 p1 p a b r is (Asleep c stack shows leaves) = shown_by known w d prints w1 d1 p1 p a b c c' (ap (configuration_of program context nodes) is) shows

  -- ---- all

  abbrev At : (n w d : ℕ) (prints : List Bytes) (world : World) (f : Focus) (k : List Frame) → Stand State Waiting
  At n w d prints world f k = run (core_machine program) context n w d prints world (at program context nodes f k)

  abbrev Under : Stand State Waiting → Stand State Waiting → Type 0
  Under x y = Below x y

  -- a run that comes to a later one
  until : (n total : ℕ) → n ≤ total → (more : ℕ) × (total ≡ n + more)
  until zero total h = (total, let z : total ≡ 0 + total = omega arith in z)
  until (suc n) zero h = absurd (let z : suc n ≤ 0 = h in let y : ⊥ = omega (arith, z) in y)
  until (suc n) (suc total) h = let r = until n total (let z : suc n ≤ suc total = h in omega (arith, z)) in (r.0, let e : total ≡ n + (r.0) = r.1 in omega (arith, e))

  -- by a run that comes to where it stands as the execution does
  pub early : (n : ℕ) (known : List Known) (w d : ℕ) (prints : List Bytes) (world : World) (f : Focus) (k : List Frame) (c' : Configuration) (a : Reaches program context nodes known w d prints world f k c') → n ≤ a.steps → (x : Stand State Waiting) → At n w d prints world f k ≡ x → Covers program context nodes known (Still c') x
  early n known w d prints world f k c' a h (execution.Still w1 d1 p1 o1 s1) is =
      let u = until n a.steps h in
      let b : Under (At n w d prints world f k) (At (n + (u.0)) w d prints world f k) = below (core_machine program) context n (u.0) w d prints world (at program context nodes f k) in
      let e : At (n + (u.0)) w d prints world f k ≡ execution.Still a.weight' a.depth' a.prints' a.world' (at program context nodes a.f' a.k') =
      ap (λ i. At i w d prints world f k) (sym (u.1) ∙ (let z : a.steps ≡ a.steps + 0 = omega arith in z)) ∙ a.by 0 in
      let q : Under (execution.Still w1 d1 p1 o1 s1) (execution.Still a.weight' a.depth' a.prints' a.world' (at program context nodes a.f' a.k')) = subst (λ y. Under (execution.Still w1 d1 p1 o1 s1) y) e (subst (λ x. Under x (At (n + (u.0)) w d prints world f k)) is b) in
      let l : a.weight' + a.held' ≤ 2 * c'.weight + owed c'.stack = a.together.light in
      let v : w1 ≤ a.weight' = q.1 in
      let i : a.depth' ≤ c'.depth = a.together.shallow in
      let j : d1 ≤ a.depth' = q.2 in
      (subst (λ ps. IsPrefix p1 ps) a.together.prints_are (q.0), omega (arith, l, v), omega (arith, i, j))
  early n known w d prints world f k c' a h (Over w1 d1 p1 o1 end) is =
      let u = until n a.steps h in
      let b : Under (At n w d prints world f k) (At (n + (u.0)) w d prints world f k) = below (core_machine program) context n (u.0) w d prints world (at program context nodes f k) in
      let e : At (n + (u.0)) w d prints world f k ≡ execution.Still a.weight' a.depth' a.prints' a.world' (at program context nodes a.f' a.k') =
      ap (λ i. At i w d prints world f k) (sym (u.1) ∙ (let z : a.steps ≡ a.steps + 0 = omega arith in z)) ∙ a.by 0 in
      let q : At (n + (u.0)) w d prints world f k ≡ Over w1 d1 p1 o1 end = subst (λ x. Under x (At (n + (u.0)) w d prints world f k)) is b in
      let z : execution.Still a.weight' a.depth' a.prints' a.world' (at program context nodes a.f' a.k') ≡ Over w1 d1 p1 o1 end = sym e ∙ q in absurd cc

  -- by a run that is over as the execution is
  pub ended : (n : ℕ) (known : List Known) (w d : ℕ) (prints : List Bytes) (world : World) (f : Focus) (k : List Frame) (c' : Configuration) (end : End) (a : Finishes program context nodes known w d prints world f k (Ended c' end)) → (x : Stand State Waiting) → At n w d prints world f k ≡ x → Covers program context nodes known (Ended c' end) x
  ended n known w d prints world f k c' end a (execution.Still w1 d1 p1 o1 s1) is =
      let b : Under (At n w d prints world f k) (At (n + a.steps) w d prints world f k) = below (core_machine program) context n a.steps w d prints world (at program context nodes f k) in
      let e : At (n + a.steps) w d prints world f k ≡ Over a.weight' a.depth' a.prints' a.world' a.end = ap (λ i. At i w d prints world f k) (let z : n + a.steps ≡ a.steps + n = omega arith in z) ∙ a.by n in
      let q : Under (execution.Still w1 d1 p1 o1 s1) (Over a.weight' a.depth' a.prints' a.world' a.end) = subst (λ y. Under (execution.Still w1 d1 p1 o1 s1) y) e (subst (λ x. Under x (At (n + a.steps) w d prints world f k)) is b) in
      shown known c' end a.known' a.weight' a.depth' a.prints' a.world' a.end w1 d1 p1 (q.0) (q.1) (q.2) (Ended c' end) refl a.finish
  ended n known w d prints world f k c' end a (Over w1 d1 p1 o1 last) is =
      let b : Under (At n w d prints world f k) (At (n + a.steps) w d prints world f k) = below (core_machine program) context n a.steps w d prints world (at program context nodes f k) in
      let e : At (n + a.steps) w d prints world f k ≡ Over a.weight' a.depth' a.prints' a.world' a.end = ap (λ i. At i w d prints world f k) (let z : n + a.steps ≡ a.steps + n = omega arith in z) ∙ a.by n in
      let q : At (n + a.steps) w d prints world f k ≡ Over w1 d1 p1 o1 last = subst (λ x. Under x (At (n + a.steps) w d prints world f k)) is b in
      subst (λ x. Covers program context nodes known (Ended c' end) x) (sym e ∙ q) (a.known', a.grows, a.finish)

  covered : (n held : ℕ) (known : List Known) (c : Configuration) (w d : ℕ) (prints : List Bytes) (world : World) (f : Focus) (k : List Frame) → Together program context nodes held known c w d prints world f k → SameCalls c.calls world.requests
      → Served c → Whole-run c → (m : ℕ) × Covers program context nodes known (steps s m c) (At n w d prints world f k)
  covered n held known c w d prints world f k t calls serves whole = from (goes_on program context nodes s head_is same accounted n held known c w d prints world f k t calls serves)
    where
      from : (m : ℕ) × HasPassed program context nodes s n known w d prints world f k (steps s m c) → (m : ℕ) × Covers program context nodes known (steps s m c) (At n w d prints world f k)
      from (m, p) = (m, by (steps s m c) p (done m held known c w d prints world f k t calls serves whole))
        where
          by : (r : Run) → HasPassed program context nodes s n known w d prints world f k r → IsDone known w d prints world f k r → Covers program context nodes known r (At n w d prints world f k)
          by (Still c') p o = early n known w d prints world f k c' (p.0) (p.1) (At n w d prints world f k) refl
          by (Ended c' end) p o = ended n known w d prints world f k c' end o (At n w d prints world f k) refl

pub covers : (program : Core) (context : Context) (nodes : ℕ) → ExecutionsCover program context nodes
covers program context nodes s head_is same accounted held known c w d prints world f k t calls serves whole n = covered program context nodes s head_is same accounted n held known c w d prints world f k t calls serves whole
