-- Jumps and errors leave what stands open behind, and awaits are told the nodes of the bodies around.
use Rattle.std.proofs.Common.{◌≡◌, ◌≤◌, ℕ, zero, suc, ◌+◌, List, [], ◌∷◌, ◌++◌, Option, Some, None, arith}
use Rattle.mo_values.specs.Costs.{Cost, weighing}
use Rattle.mo_values.specs.Shapes.{Shape}
use Rattle.typed_tree.specs.declared.action.Action.TheVariants as action
use Rattle.typed_tree.specs.Language.{Exp}
use Rattle.typed_tree.specs.Patterns.{matches}
use Rattle.nesting.specs.Shapes.{pile}
use Rattle.mo_machine.specs.Acts.{Store, Act, Goes, Prints, Asks, Awaits, Leaves, Throws, Traps, Stuck}
use Rattle.mo_machine.specs.Environments.{Environment, extended}
use Rattle.mo_machine.specs.Frames.{Returning, Labelled, Trying, Joining, Stack, Focus, Eval}
use Rattle.mo_machine.specs.Jumps.{leave, throw, nodes_around, on_stack}
use Rattle.mo_machine.specs.Matching.{on_match, fails_to_match, trying}
use Rattle.mo_machine.specs.Values.{Value, Code, shape_of, values_list}
use Rattle.machine_nesting.specs.Sizes.{Sized, Good, GoodAll, GoodEach}
use Rattle.machine_nesting.specs.Stacks.{nodes_on, open_on, limit_on, Piled, Busy}
use Rattle.machine_nesting.proofs.Shapes.{GoodFound, match_good, shape_good}
use Rattle.machine_nesting.proofs.Sizes.{extended_good}
use Rattle.machine_nesting.proofs.Standing.{busy_value, busy_ready, busy_code, Acts, Reduced}

-- all nodes around
around : (nodes : ℕ) (k : Stack) → nodes_around nodes k ≡ nodes + nodes_on k
around nodes [] = omega arith
around nodes (Returning more ∷ k) = omega (arith, around (more + nodes) k)
around nodes (_ ∷ k) = omega (arith, around nodes k)

module _ (ending : ℕ) (f : Focus) (here : Stack) (store : Store) (s : GoodEach store) where
  abbrev Does : Act → Type 0
  Does m = Reduced ending f here m

  -- a reduction at the top of a stack that neither jumps nor awaits
  pub calmly : (m : Act) (k : Stack) → nodes_on k ≤ nodes_on here → Acts ending ⊥ (λ v. ⊥) k m → Does (on_stack store m k)
  calmly (Goes cost later g more) k le h = (h.0, h.1, (let x : nodes_on (more ++ k) ≤ cost.weight + nodes_on k = h.2 in omega (arith, x, le)))
  calmly (Prints cost text g more) k le h = (h.0, (let x : nodes_on (more ++ k) ≤ cost.weight + nodes_on k = h.1 in omega (arith, x, le)))
  calmly (Asks request) k le h = tt
  calmly (Awaits nodes call) k le h = absurd h
  calmly (Leaves labels v) k le h = absurd h
  calmly (Throws cost error) k le h = absurd h
  calmly (Traps cost text) k le h = tt
  calmly Stuck k le h = tt

  leaves : (labels : ℕ) (v : Value) (k : Stack) → Good v → Piled ending k → nodes_on k ≤ nodes_on here → Does (leave store labels v k)
  leaves labels v [] g p le = tt
  leaves zero v (Labelled ∷ k) g p le = (s, busy_value ending k p.2 v g, omega (arith, le))
  leaves (suc labels) v (Labelled ∷ k) g p le = (s, busy_ready ending k p.2 (action.Break labels) (v ∷ []) (g, tt), omega (arith, le))
  leaves labels v (Trying q b env ∷ k) g p le = (s, busy_ready ending k p.2 (action.Break labels) (v ∷ []) (g, tt), omega (arith, le))
  leaves zero v (Returning n ∷ k) g p le = (s, busy_value ending k p.2 v g, omega (arith, le))
  leaves (suc labels) v (Returning n ∷ k) g p le = tt
  leaves labels v (_ ∷ k) g p le = leaves labels v k g p.2 (omega (arith, le))

  caught : (cost weight : ℕ) (b : Exp) (env : Environment) (k : Stack) (o : Option (List (Shape Code))) → Sized b → GoodAll env → Piled ending k → ending + pile ending 1 b + open_on ending k ≤ limit_on ending k → nodes_on k ≤ nodes_on here → GoodFound o
      → Does (on_match o (λ vs. Goes (weighing weight) store (Eval b (extended vs env)) (Joining ∷ k)) (fails_to_match weight))
  caught cost weight b env k None z e p r le h = tt
  caught cost weight b env k (Some vs) z e p r le h =
      (s, busy_code ending (Joining ∷ k) (tt, omega (arith, r), p) b _ z (extended_good (values_list vs) env h e) (omega (arith, r)), omega (arith, le))

  throws : (cost : Cost) (error : Value) (k : Stack) → Good error → Piled ending k → nodes_on k ≤ nodes_on here → Does (throw store cost error k)
  throws cost error [] g p le = tt
  throws cost error (Labelled ∷ k) g p le = (s, busy_ready ending k p.2 action.Throw (error ∷ []) (g, tt), omega (arith, le))
  throws cost error (Trying q b env ∷ k) g p le =
      let r = p.1 in
      caught cost.weight (cost.weight + trying q error) b env k (matches q (shape_of error)) p.0.0 p.0.1 p.2 (omega (arith, r)) (omega (arith, le)) (match_good q (shape_of error) (shape_good error g))
  throws cost error (_ ∷ k) g p le = throws cost error k g p.2 (omega (arith, le))

-- a reduction at the top of a stack
pub at_top : (ending : ℕ) (f : Focus) (k : Stack) → Busy ending f k → (store : Store) → GoodEach store → (m : Act) → Acts ending (Unit {0}) Good k m → Reduced ending f k (on_stack store m k)
at_top ending f k b store s (Goes cost later g more) h = h
at_top ending f k b store s (Prints cost text g more) h = h
at_top ending f k b store s (Asks request) h = tt
at_top ending f k b store s (Awaits nodes call) h = record { busy = b; paid = omega (arith, around nodes k) }
at_top ending f k b store s (Leaves labels v) h = leaves ending f k store s labels v k h b.piled (omega arith)
at_top ending f k b store s (Throws cost error) h = throws ending f k store s cost error k h b.piled (omega arith)
at_top ending f k b store s (Traps cost text) h = tt
at_top ending f k b store s Stuck h = tt
