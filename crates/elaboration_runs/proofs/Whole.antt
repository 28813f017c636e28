-- Executions are followed over any number of steps.
use Rattle.std.proofs.Common.{◌≡◌, ℕ, zero, suc, ◌+◌, ◌≤◌, Bool, true, false, List, [], ◌++◌, length, refl, sym, ap, ◌∙◌, subst, arith}
use Rattle.std.specs.Prelude.{nat_lt, cond}
use Rattle.mo_types.specs.Graph.{head_at}
use Rattle.mo_values.specs.Shapes.{Bytes, Error}
use Rattle.core_ir.specs.Worlds.{World, Context}
use Rattle.elaboration.proofs.Coming.{assoc}
use Rattle.elaboration_steps.proofs.Paths as paths
use Rattle.core_ir.specs.Executions as execution
use Rattle.core_ir.specs.Expressions.{Core}
use Rattle.core_ir.specs.CoreMachine.{Frame, Focus, Waiting, at, core_machine}
use Rattle.mo_meaning.specs.Configurations.{Surroundings}
use Rattle.mo_meaning.specs.Turns.{most_bytes}
use Rattle.mo_machine.specs.Values.{Value, Made, NoValue}
use Rattle.mo_machine.specs.Configurations.{Configuration, Run, Still, Ended, End}
use Rattle.mo_machine.specs.Turns.{rejects, then_steps, step, steps}
use Rattle.elaboration_values.specs.Belonging.{Known}
use Rattle.elaboration_steps.specs.Follows.{rank}
use Rattle.elaboration_runs.specs.Together.{Together}
use Rattle.elaboration_runs.specs.Calling.{Surrounded}
use Rattle.elaboration_runs.specs.Waiting.{Accounted}
use Rattle.elaboration_runs.specs.Ending.{Finish, Returned, Thrown, Trapped, Suspended, Asleep}
use Rattle.elaboration_runs.specs.Whole.{Serves, SameCalls, Reaches, HasPassed, ExecutionsFollow, ExecutionsGoOn}
use Rattle.elaboration_runs.proofs.OneStep as one

-- ---- a run that still goes on

abbrev still_or : Configuration → Run → Configuration
still_or d (Still c) = c
still_or d (Ended c end) = d

still_same : (a b : Configuration) → Still a ≡ Still b → a ≡ b
still_same a b e = ap (still_or a) e

no_still : (x y : Configuration) (end : End) → Ended x end ≡ Still y → ⊥
no_still x y end e = absurd cc

never : (b : Bool) (x y z : Configuration) (e1 e2 : End) → cond b (Ended x e1) (Ended y e2) ≡ Still z → ⊥
never true x y z e1 e2 h = no_still x z e1 h
never false x y z e1 e2 h = no_still y z e2 h

no_rejection : (c z : Configuration) (error : Value) → rejects c error ≡ Still z → ⊥
no_rejection c z (Made (Error code text) NoValue) h = never (nat_lt most_bytes (length text)) _ _ z _ _ h
no_rejection c z _ h = absurd cc

module _ (program : Core) (context : Context) (nodes : ℕ) (s : Surroundings) (head_is : context.head ≡ head_at s.types) (same : Surrounded program context nodes s) (accounted : Accounted program context nodes s) where
  -- ---- one step

  pub no_end : (known : List Known) (w d : ℕ) (prints : List Bytes) (world : World) (r : Run) (end : execution.End Waiting) (c1 : Configuration) → Finish program context nodes known w d prints world r end → r ≡ Still c1 → ⊥
  no_end known w d prints world r end c1 (Returned c v u shows leaves value) e = no_still c c1 _ e
  no_end known w d prints world r end c1 (Thrown c error u shows leaves value) e = no_rejection c c1 error e
  no_end known w d prints world r end c1 (Trapped c text shows) e = no_still c c1 _ e
  no_end known w d prints world r end c1 (Suspended c call stack shows leaves stops) e = no_still c c1 _ e
  no_end known w d prints world r end c1 (Asleep c stack shows leaves) e = no_still c c1 _ e

  module _ (held : ℕ) (known : List Known) (c : Configuration) (w d : ℕ) (prints : List Bytes) (world : World) (f : Focus) (k : List Frame) (t : Together program context nodes held known c w d prints world f k) (calls : SameCalls c.calls world.requests) (serves : Serves c) where
    abbrev R : Configuration → Type 0
    R = one.R program context nodes s head_is same accounted held known c w d prints world f k t calls serves

    on_from : (c1 : Configuration) (r : Run) → one.Outcome program context nodes s head_is same accounted held known c w d prints world f k t calls serves r → r ≡ Still c1 → R c1
    on_from c1 r (one.IsOn c' x) e = subst R (still_same c' c1 e) x
    on_from c1 r (one.IsOff r' o) e = absurd (no_end o.known' o.weight' o.depth' o.prints' o.world' r' o.end c1 o.finish e)
    on_from c1 r (one.IsBroken c') e = absurd (no_still c' c1 _ e)

    one_step : (c1 : Configuration) → step s c ≡ Still c1 → R c1
    one_step c1 h = on_from c1 (step s c) (one.outcome program context nodes s head_is same accounted held known c w d prints world f k t calls serves) h

  -- ---- none

  stays : (held : ℕ) (known : List Known) (c : Configuration) (w d : ℕ) (prints : List Bytes) (world : World) (f : Focus) (k : List Frame) → Together program context nodes held known c w d prints world f k → SameCalls c.calls world.requests
      → Reaches program context nodes known w d prints world f k c
  stays held known c w d prints world f k t calls = record {
    steps = 0;
    weight' = w;
    depth' = d;
    prints' = prints;
    held' = held;
    known' = known;
    world' = world;
    f' = f;
    k' = k;
    by = λ more. ap (λ n. execution.run (core_machine program) context n w d prints world (at program context nodes f k)) (let z : 0 + more ≡ more = omega arith in z);
    grows = ([], paths.nothing_more known);
    calls = calls;
    together = t;
  }

  -- ---- one after another

  module _ (known : List Known) (w d : ℕ) (prints : List Bytes) (world : World) (f : Focus) (k : List Frame) (c1 : Configuration) (a : Reaches program context nodes known w d prints world f k c1) where
    abbrev join : (c' : Configuration) → Reaches program context nodes a.known' a.weight' a.depth' a.prints' a.world' a.f' a.k' c' → Reaches program context nodes known w d prints world f k c'
    join c' b = record {
      steps = a.steps + b.steps;
      weight' = b.weight';
      depth' = b.depth';
      prints' = b.prints';
      held' = b.held';
      known' = b.known';
      world' = b.world';
      f' = b.f';
      k' = b.k';
      by = λ more. ap (λ n. execution.run (core_machine program) context n w d prints world (at program context nodes f k)) (let z : a.steps + b.steps + more ≡ a.steps + (b.steps + more) = omega arith in z) ∙ (a.by (b.steps + more) ∙ b.by more);
      grows = ((a.grows.0) ++ (b.grows.0), b.grows.1 ∙ (ap (λ ks. ks ++ (b.grows.0)) (a.grows.1) ∙ assoc known (a.grows.0) (b.grows.0)));
      calls = b.calls;
      together = b.together;
    }

    abbrev First : ℕ → Run → Type 0
    First least = HasPassed program context nodes s least known w d prints world f k

    abbrev Then : ℕ → Run → Type 0
    Then least = HasPassed program context nodes s least a.known' a.weight' a.depth' a.prints' a.world' a.f' a.k'

    passed : (least more : ℕ) (r : Run) → more ≤ a.steps + least → Then least r → First more r
    passed least more (Still c') h p = (join c' (p.0), let z : least ≤ p.0.steps = p.1 in omega (arith, h, z))
    passed least more (Ended c' end) h p = tt

  -- ---- and all of them

  -- so many steps are followed, from wherever both stand together
  abbrev Followed : ℕ → Type 0
  Followed n =
      (held : ℕ) (known : List Known) (c : Configuration) (w d : ℕ) (prints : List Bytes) (world : World) (f : Focus) (k : List Frame) → Together program context nodes held known c w d prints world f k → SameCalls c.calls world.requests
      → ((j : ℕ) (c' : Configuration) → steps s j c ≡ Still c' → Serves c') → (c' : Configuration) → steps s n c ≡ Still c' → Reaches program context nodes known w d prints world f k c'

  after_step : (n : ℕ) → Followed n → (held : ℕ) (known : List Known) (c : Configuration) (w d : ℕ) (prints : List Bytes) (world : World) (f : Focus) (k : List Frame) → Together program context nodes held known c w d prints world f k → SameCalls c.calls world.requests
      → ((j : ℕ) (c' : Configuration) → steps s j c ≡ Still c' → Serves c') → (c' : Configuration) → (r : Run) → step s c ≡ r → then_steps s (steps s n) r ≡ Still c' → Reaches program context nodes known w d prints world f k c'
  after_step n go held known c w d prints world f k t calls serves c' (Ended x end) is h = absurd (no_still x c' end h)
  after_step n go held known c w d prints world f k t calls serves c' (Still c1) is h =
      let a : Reaches program context nodes known w d prints world f k c1 = (one_step held known c w d prints world f k t calls (serves 0 c refl) c1 is).0 in
      join known w d prints world f k c1 a c' (go a.held' a.known' c1 a.weight' a.depth' a.prints' a.world' a.f' a.k' a.together a.calls (λ j c2 i. serves (suc j) c2 (ap (then_steps s (steps s j)) is ∙ i)) c' h)

  whole : (n : ℕ) → Followed n
  whole zero held known c w d prints world f k t calls serves c' e = subst (Reaches program context nodes known w d prints world f k) (still_same c c' e) (stays held known c w d prints world f k t calls)
  whole (suc n) held known c w d prints world f k t calls serves c' e = after_step n (whole n) held known c w d prints world f k t calls serves c' (step s c) refl e

  -- ---- the run goes on

  abbrev GoesFurther : ℕ → Type 0
  GoesFurther least =
      (held : ℕ) (known : List Known) (c : Configuration) (w d : ℕ) (prints : List Bytes) (world : World) (f : Focus) (k : List Frame) → Together program context nodes held known c w d prints world f k → SameCalls c.calls world.requests
      → ((j : ℕ) (c' : Configuration) → steps s j c ≡ Still c' → Serves c') → (n : ℕ) × HasPassed program context nodes s least known w d prints world f k (steps s n c)

  abbrev RankGoes : (least rest : ℕ) → Type 0
  RankGoes least rest =
      (held : ℕ) (known : List Known) (c : Configuration) (w d : ℕ) (prints : List Bytes) (world : World) (f : Focus) (k : List Frame) → rank c.focus c.stack ≤ rest → Together program context nodes held known c w d prints world f k
      → SameCalls c.calls world.requests → ((j : ℕ) (c' : Configuration) → steps s j c ≡ Still c' → Serves c') → (n : ℕ) × HasPassed program context nodes s (suc least) known w d prints world f k (steps s n c)

  -- a step of the execution: the run makes one, or the rank is smaller
  one_more : (least : ℕ) → GoesFurther least → (rest : ℕ)
      → ((held : ℕ) (known : List Known) (c : Configuration) (w d : ℕ) (prints : List Bytes) (world : World) (f : Focus) (k : List Frame) → suc (rank c.focus c.stack) ≤ rest → Together program context nodes held known c w d prints world f k
      → SameCalls c.calls world.requests → ((j : ℕ) (c' : Configuration) → steps s j c ≡ Still c' → Serves c') → (n : ℕ) × HasPassed program context nodes s (suc least) known w d prints world f k (steps s n c))
      → RankGoes least rest
  one_more least go rest below held known c w d prints world f k low t calls serves = by (step s c) refl
    where
      behind : (c1 : Configuration) → step s c ≡ Still c1 → (n : ℕ) → HasPassed program context nodes s (suc least) known w d prints world f k (steps s n c1) → (n : ℕ) × HasPassed program context nodes s (suc least) known w d prints world f k (steps s n c)
      behind c1 is n p = (suc n, subst (λ r. HasPassed program context nodes s (suc least) known w d prints world f k (then_steps s (steps s n) r)) (sym is) p)

      by_steps : (c1 : Configuration) → step s c ≡ Still c1 → (a : Reaches program context nodes known w d prints world f k c1) → (a.steps ≡ 0 → suc (rank c1.focus c1.stack) ≤ rank c.focus c.stack) → (m : ℕ) → a.steps ≡ m → (n : ℕ) × HasPassed program context nodes s (suc least) known w d prints world f k (steps s n c)
      by_steps c1 is a falls zero e =
          let z : suc (rank c1.focus c1.stack) ≤ rank c.focus c.stack = falls e in
          let p : (n : ℕ) × HasPassed program context nodes s (suc least) a.known' a.weight' a.depth' a.prints' a.world' a.f' a.k' (steps s n c1) =
          below a.held' a.known' c1 a.weight' a.depth' a.prints' a.world' a.f' a.k' (omega (arith, z, low)) a.together a.calls (λ j c2 i. serves (suc j) c2 (ap (then_steps s (steps s j)) is ∙ i)) in
          behind c1 is (p.0) (passed known w d prints world f k c1 a (suc least) (suc least) (steps s (p.0) c1) (omega arith) (p.1))
      by_steps c1 is a falls (suc m) e =
          let p : (n : ℕ) × HasPassed program context nodes s least a.known' a.weight' a.depth' a.prints' a.world' a.f' a.k' (steps s n c1) =
          go a.held' a.known' c1 a.weight' a.depth' a.prints' a.world' a.f' a.k' a.together a.calls (λ j c2 i. serves (suc j) c2 (ap (then_steps s (steps s j)) is ∙ i)) in
          behind c1 is (p.0) (passed known w d prints world f k c1 a least (suc least) (steps s (p.0) c1) (omega (arith, e)) (p.1))

      by : (r : Run) → step s c ≡ r → (n : ℕ) × HasPassed program context nodes s (suc least) known w d prints world f k (steps s n c)
      by (Ended x end) is = (suc 0, subst (λ r. HasPassed program context nodes s (suc least) known w d prints world f k (then_steps s (steps s 0) r)) (sym is) tt)
      by (Still c1) is =
          let o = one_step held known c w d prints world f k t calls (serves 0 c refl) c1 is in
          by_steps c1 is (o.0) (o.1) o.0.steps refl

  from_rank : (least : ℕ) → GoesFurther least → (rest : ℕ) → RankGoes least rest
  from_rank least go zero = one_more least go zero (λ held known c w d prints world f k low t calls serves. absurd (let z : suc (rank c.focus c.stack) ≤ 0 = low in let y : ⊥ = omega (arith, z) in y))
  from_rank least go (suc rest) =
      one_more least go (suc rest) (λ held known c w d prints world f k low t calls serves. from_rank least go rest held known c w d prints world f k (let z : suc (rank c.focus c.stack) ≤ suc rest = low in omega (arith, z)) t calls serves)

  goes_further : (least : ℕ) → GoesFurther least
  goes_further zero held known c w d prints world f k t calls serves = (0, (stays held known c w d prints world f k t calls, omega arith))
  goes_further (suc least) held known c w d prints world f k t calls serves = from_rank least (goes_further least) (rank c.focus c.stack) held known c w d prints world f k (omega arith) t calls serves

pub goes_on : (program : Core) (context : Context) (nodes : ℕ) → ExecutionsGoOn program context nodes
goes_on program context nodes s head_is same accounted least held known c w d prints world f k t calls serves = goes_further program context nodes s head_is same accounted least held known c w d prints world f k t calls serves

pub executions : (program : Core) (context : Context) (nodes : ℕ) → ExecutionsFollow program context nodes
executions program context nodes s head_is same accounted n held known c w d prints world f k t calls serves c' e = whole program context nodes s head_is same accounted n held known c w d prints world f k t calls serves c' e
