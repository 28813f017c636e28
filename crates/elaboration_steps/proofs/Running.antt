-- Ways are runs of so many steps.
use Rattle.std.proofs.Common.{◌≡◌, ℕ, suc, ◌+◌, ◌*◌, ◌≤◌, List, [], ◌++◌, refl, sym, ap, ◌∙◌, arith}
use Rattle.std.specs.Prelude.{max}
use Rattle.mo_values.specs.Costs.{Cost, weighing}
use Rattle.mo_values.specs.Shapes.{Bytes}
use Rattle.core_ir.specs.Worlds.{World, Context}
use Rattle.core_ir.specs.Executions.{Go, Stand, after_step, deep_with, run}
use Rattle.core_ir.specs.Expressions.{Core}
use Rattle.core_ir.specs.CoreMachine.{Frame, Focus, State, Waiting, focused, at, depth_of, core_machine}
use Rattle.elaboration.specs.Meeting as meeting
use Rattle.elaboration.specs.Meeting.{Comes, There}
use Rattle.elaboration_steps.specs.Follows.{Waits, Plainly, Doing}
use Rattle.elaboration_steps.specs.Running.{least, deep, Runs, WaysAreRuns, StopsAreRuns}
use Rattle.elaboration_steps.proofs.Paths.{nothing_more}

next_step : (n more : ℕ) → suc n + more ≡ suc (n + more)
next_step n more = omega arith

many_steps : (m n more : ℕ) → (m + suc n) + more ≡ m + suc (n + more)
many_steps m n more = omega arith

module _ (program : Core) (context : Context) (nodes : ℕ) where
  abbrev R : ℕ → (weight depth : ℕ) → List Bytes → World → State → Stand State Waiting
  R = run (core_machine program) context

  abbrev D : List Frame → ℕ
  D = deep program context nodes

  by_step : (cost : Cost) (out : List Bytes) (n w d : ℕ) (prints : List Bytes) (world world' : World) (f : Focus) (k : List Frame) (f' : Focus) (k' : List Frame) → focused program context nodes world f k ≡ Go cost out world' (at program context nodes f' k')
      → R (suc n) w d prints world (at program context nodes f k) ≡ R n (w + cost.weight) (max d (deep_with (D k) cost)) (prints ++ out) world' (at program context nodes f' k')
  by_step cost out n w d prints world world' f k f' k' eq = ap (after_step (R n) (D k) w d prints) eq

  -- steps that leave the world as it is
  record Plain (n w d : ℕ) (prints : List Bytes) (world : World) (f : Focus) (k : List Frame) (g : Focus) (l : List Frame) : Type 0 where
    steps : ℕ
    weight' : ℕ
    depth' : ℕ
    prints' : List Bytes
    by : (more : ℕ) → R (steps + more) w d prints world (at program context nodes f k) ≡ R more weight' depth' prints' world (at program context nodes g l)
    heavy : weight' ≤ w + n
    within : depth' ≤ max d (D k)
    shown : prints' ≡ prints
    level : depth_of k ≡ depth_of l

  comes_run : (world : World) (n : ℕ) (f : Focus) (k : List Frame) (g : Focus) (l : List Frame) → Comes program context nodes world n f k g l → (w d : ℕ) (prints : List Bytes) → Plain n w d prints world f k g l
  comes_run world n f k g l (There m h j) w d prints = record {
    steps = 0;
    weight' = w;
    depth' = d;
    prints' = prints;
    by = λ more. ap (λ i. R i w d prints world (at program context nodes h j)) (let z : 0 + more ≡ more = omega arith in z);
    heavy = omega arith;
    within = omega arith;
    shown = refl;
    level = refl;
  }
  comes_run world n f k g l (meeting.Goes m u p h j h' j' i r eq same le c) w d prints =
      let t : Plain p (w + u) (max d (D j + 16 * 0)) (prints ++ []) world h' j' i r = comes_run world p h' j' i r c (w + u) (max d (D j + 16 * 0)) (prints ++ []) in
      record {
        steps = suc t.steps;
        weight' = t.weight';
        depth' = t.depth';
        prints' = t.prints';
        by = λ more. ap (λ q. R q w d prints world (at program context nodes h j)) (next_step t.steps more) ∙ (by_step (weighing u) [] (t.steps + more) w d prints world world h j h' j' eq ∙ t.by more);
        heavy = let z : t.weight' ≤ w + u + p = t.heavy in omega (arith, z, le);
        within = let z : t.depth' ≤ max (max d (D j + 16 * 0)) (D j') = t.within in let y : depth_of j ≡ depth_of j' = same in omega (arith, z, y);
        shown = t.shown ∙ sym (nothing_more prints);
        level = same ∙ t.level;
      }

  pub ways : WaysAreRuns program context nodes
  ways moved weight levels out world f k world' g l (Waits a c o h j) w d prints = record {
    steps = 0;
    weight' = w;
    depth' = d;
    prints' = prints;
    by = λ more. ap (λ i. R i w d prints world (at program context nodes h j)) (let z : 0 + more ≡ more = omega arith in z);
    enough = omega arith;
    heavy = omega arith;
    within = omega arith;
    shown = nothing_more prints;
  }
  ways moved weight levels out world f k world' g l (Plainly m n a c o h j h1 j1 i r eq same p le) w d prints =
      let t : Plain n (w + m) (max d (D j + 16 * 0)) (prints ++ []) o h1 j1 i r = comes_run o n h1 j1 i r p (w + m) (max d (D j + 16 * 0)) (prints ++ []) in
      record {
        steps = suc t.steps;
        weight' = t.weight';
        depth' = t.depth';
        prints' = t.prints';
        by = λ more. ap (λ q. R q w d prints o (at program context nodes h j)) (next_step t.steps more) ∙ (by_step (weighing m) [] (t.steps + more) w d prints o o h j h1 j1 eq ∙ t.by more);
        enough = omega arith;
        heavy = let z : t.weight' ≤ w + m + n = t.heavy in omega (arith, z, le);
        within = let z : t.depth' ≤ max (max d (D j + 16 * 0)) (D j1) = t.within in let y : depth_of j ≡ depth_of j1 = same in omega (arith, z, y);
        shown = t.shown;
      }
  ways moved weight levels out world f k world' g l (Doing m n a c cost u o h j h1 j1 o' h2 j2 i r p eq q le lv) w d prints =
      let s : Plain m w d prints o h j h1 j1 = comes_run o m h j h1 j1 p w d prints in
      let t : Plain n (s.weight' + cost.weight) (max s.depth' (deep_with (D j1) cost)) (s.prints' ++ u) o' h2 j2 i r = comes_run o' n h2 j2 i r q (s.weight' + cost.weight) (max s.depth' (deep_with (D j1) cost)) (s.prints' ++ u) in
      record {
        steps = s.steps + suc t.steps;
        weight' = t.weight';
        depth' = t.depth';
        prints' = t.prints';
        by = λ more. ap (λ z. R z w d prints o (at program context nodes h j)) (many_steps s.steps t.steps more) ∙ (s.by (suc (t.steps + more)) ∙ (by_step cost u (t.steps + more) s.weight' s.depth' s.prints' o o' h1 j1 h2 j2 eq ∙ t.by more));
        enough = omega arith;
        heavy = let z : t.weight' ≤ s.weight' + cost.weight + n = t.heavy in let y : s.weight' ≤ w + m = s.heavy in omega (arith, z, y, le);
        within =
            let z : t.depth' ≤ max (max s.depth' (D j1 + 16 * cost.levels)) (D j2) = t.within in
            let y : s.depth' ≤ max d (D j) = s.within in
            let x : depth_of j ≡ depth_of j1 = s.level in
            let v : depth_of j2 ≡ depth_of r = t.level in
            omega (arith, z, y, x, v, lv);
        shown = t.shown ∙ ap (λ z. z ++ u) s.shown;
      }

  pub ends : StopsAreRuns program context nodes
  ends before spent total levels world f k end r w d prints weight enough =
      let t : Runs program context nodes (least r.moved) r.weight r.through [] w d prints world f k world r.cf' r.ck' = ways r.moved r.weight r.through [] world f k world r.cf' r.ck' r.path w d prints in
      record {
        steps = t.steps + 1;
        weight' = t.weight' + r.cost.weight;
        depth' = max t.depth' (deep_with (D r.ck') r.cost);
        prints' = t.prints' ++ [];
        by = λ more. ap (λ z. R z w d prints world (at program context nodes f k)) (let z : (t.steps + 1) + more ≡ t.steps + suc more = omega arith in z) ∙ (t.by (suc more) ∙ ap (after_step (R more) (D r.ck') t.weight' t.depth' t.prints') r.ends);
        heavy = let z : t.weight' ≤ w + r.weight = t.heavy in let y : spent + r.weight + r.cost.weight ≤ total = r.pays in omega (arith, z, y, enough);
        within =
            let z : t.depth' ≤ max d (max (D k + 16 * r.through) (D r.ck')) = t.within in
            omega (arith, z);
        shown = sym (nothing_more t.prints') ∙ (t.shown ∙ sym (nothing_more prints));
      }
