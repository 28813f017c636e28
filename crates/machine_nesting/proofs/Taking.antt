-- What the first frame does with a value.
use Rattle.std.proofs.Common.{◌≤◌, ℕ, ◌+◌, List, [], ◌∷◌, true, false, Option, Some, None, arith}
use Rattle.std.specs.Prelude.{codes}
use Rattle.mo_types.specs.declared.datum.Datum.TheVariants as part
use Rattle.mo_values.specs.Costs.{weighing}
use Rattle.mo_values.specs.declared.operation.Operation.TheVariants as op
use Rattle.mo_values.specs.Shapes.{Leaf, Shape}
use Rattle.typed_tree.specs.declared.action.Action.TheVariants as action
use Rattle.typed_tree.specs.Language.{Exp, Cases, NoExp, NoCase, ACase, While, Repeat}
use Rattle.typed_tree.specs.Patterns.{matches}
use Rattle.nesting.specs.Shapes.{pile_cases}
use Rattle.mo_meaning.specs.Places.{one}
use Rattle.mo_meaning.specs.Reduce.{turn_cases}
use Rattle.mo_machine.specs.Acts.{Store, Act, Goes}
use Rattle.mo_machine.specs.Environments.{Environment, extended}
use Rattle.mo_machine.specs.Frames.{Frame, Operands, Choosing, Switching, Returning, Labelled, Testing, Turning, Repeating, Retesting, Going, Stepping, Trying, Updating, Joining, Stack, Eval}
use Rattle.mo_machine.specs.Matching.{on_match, first_case, trying}
use Rattle.mo_machine.specs.Reductions.{chosen, finished, takes}
use Rattle.mo_machine.specs.Values.{Value, Made, NoValue, Code, shape_of, values_list, unit}
use Rattle.machine_nesting.specs.Sizes.{SizedCases, Good, GoodAll, GoodEach}
use Rattle.machine_nesting.specs.Stacks.{QuietFrame, QuietCases, open_on, limit_on, needs, GoodFrame, Piled, QuietOn, Standing, InBuiltIn}
use Rattle.machine_nesting.proofs.Counting.{room}
use Rattle.machine_nesting.proofs.Shapes.{GoodFound, match_good, shape_good}
use Rattle.machine_nesting.proofs.Sizes.{extended_good}
use Rattle.machine_nesting.proofs.Standing.{busy_value, busy_ready, busy_code, Acts}

module _ (ending : ℕ) (k : Stack) (store : Store) (s : GoodEach store) where
  -- it neither awaits nor jumps
  abbrev Does : Act → Type 0
  Does m = Acts ending ⊥ (λ v. ⊥) k m

  chosen_good : (v : Value) (a b : Act) → Does a → Does b → Does (chosen v a b)
  chosen_good (Made (Leaf (part.Flag true)) NoValue) a b h i = h
  chosen_good (Made (Leaf (part.Flag false)) NoValue) a b h i = i
  chosen_good _ a b h i = tt

  one_case : (weight : ℕ) (e : Exp) (env : Environment) (o : Option (List (Shape Code))) (other : Act) → Does other
      → ((vs : List Value) → GoodEach vs → Standing ending (Eval e (extended vs env)) (Joining ∷ k)) → GoodFound o → Does (on_match o (λ vs. Goes (weighing weight) store (Eval e (extended vs env)) (Joining ∷ [])) other)
  one_case weight e env None other h stands g = h
  one_case weight e env (Some vs) other h stands g = (s, stands (values_list vs) g, omega arith)

  -- ---- in code that is counted

  module _ (p : Piled ending k) where
    ends : Does (finished store)
    ends = (s, busy_value ending k p unit tt, omega arith)

    cases_good : (weight : ℕ) (v : Value) (cases : Cases) (env : Environment) → Good v → SizedCases cases → GoodAll env → ending + pile_cases ending 1 cases + open_on ending k ≤ limit_on ending k → Does (first_case store weight v cases env)
    cases_good weight v NoCase env g z e r = tt
    cases_good weight v (ACase q b cases) env g z e r =
        one_case (weight + trying q v) b env (matches q (shape_of v)) _ (cases_good (weight + trying q v) v cases env g z.1 e (omega (arith, r)))
        (λ vs h. busy_code ending (Joining ∷ k) (tt, omega (arith, r), p) b _ z.0 (extended_good vs env h e) (omega (arith, r))) (match_good q (shape_of v) (shape_good v g))

    takes_so : (v : Value) → Good v → (frame : Frame) → GoodFrame frame → needs ending frame + open_on ending k ≤ limit_on ending k → Does (takes store v frame)
    takes_so v g (Operands a done rest env) h r = tt
    takes_so v g (Choosing a b env) h r =
        chosen_good v _ _ (s, busy_code ending (Joining ∷ k) (tt, omega (arith, r), p) a env h.0 h.2 (omega (arith, r)), omega arith)
        (s, busy_code ending (Joining ∷ k) (tt, omega (arith, r), p) b env h.1 h.2 (omega (arith, r)), omega arith)
    takes_so v g (Switching cases env) h r = cases_good 1 v cases env g h.0 h.1 r
    takes_so v g (Returning n) h r = (s, busy_value ending k p v g, omega arith)
    takes_so v g Labelled h r = (s, busy_value ending k p v g, omega arith)
    takes_so v g (Testing c b env) h r = chosen_good v _ _ (s, busy_code ending (Turning c b env ∷ k) (h, r, p) b env h.1 h.2 (omega (arith, r)), omega arith) ends
    takes_so v g (Turning c b env) h r = (s, busy_code ending k p (While c b) env (h.0, h.1) h.2 r, omega arith)
    takes_so v g (Repeating b c env) h r = (s, busy_code ending (Retesting b c env ∷ k) (h, r, p) c env h.1 h.2 (omega (arith, r)), omega arith)
    takes_so v g (Retesting b c env) h r = chosen_good v _ _ (s, busy_code ending k p (Repeat b c) env (h.0, h.1) h.2 r, omega arith) ends
    takes_so v g (Going q b env) h r =
        let stepping : Piled ending (Stepping q v b env ∷ k) = ((g, h.0, h.1), r, p) in
        let switching : Piled ending (Switching (turn_cases q b) env ∷ Stepping q v b env ∷ k) = (((tt, ((h.0, (tt, tt)), tt)), h.1), omega (arith, r), stepping) in
        let x : open_on ending k ≤ limit_on ending k = room ending k p in
        let calling : Piled ending (Operands action.Call [] NoExp env ∷ Switching (turn_cases q b) env ∷ Stepping q v b env ∷ k) = ((tt, tt, h.1), omega (arith, x), switching) in
        (s, busy_ready ending (Operands action.Call [] NoExp env ∷ Switching (turn_cases q b) env ∷ Stepping q v b env ∷ k) calling (action.Operate (op.Field (codes "next"))) (v ∷ []) (g, tt), omega arith)
    takes_so v g (Stepping q w b env) h r = chosen_good v _ _ (s, busy_value ending (Going q b env ∷ k) ((h.1, h.2), r, p) w h.0, omega arith) ends
    takes_so v g (Trying q b env) h r = (s, busy_value ending k p v g, omega arith)
    takes_so v g (Updating o e env) h r =
        let x : open_on ending k ≤ limit_on ending k = room ending k p in
        let writing : Piled ending (Operands action.Write (v ∷ []) NoExp env ∷ k) = (((g, tt), tt, h.1), omega (arith, x), p) in
        let operating : Piled ending (Operands (action.Operate o) [] (one e) env ∷ Operands action.Write (v ∷ []) NoExp env ∷ k) = ((tt, (h.0, tt), h.1), omega (arith, r), writing) in
        (s, busy_ready ending (Operands (action.Operate o) [] (one e) env ∷ Operands action.Write (v ∷ []) NoExp env ∷ k) operating action.Read (v ∷ []) (g, tt), omega arith)
    takes_so v g Joining h r = tt

  -- ---- in the code of built-in functions

  module _ (q : QuietOn ending k) where
    quiet_cases : (weight : ℕ) (v : Value) (cases : Cases) (env : Environment) → Good v → QuietCases cases → GoodAll env → Does (first_case store weight v cases env)
    quiet_cases weight v NoCase env g z e = tt
    quiet_cases weight v (ACase p b cases) env g z e =
        one_case (weight + trying p v) b env (matches p (shape_of v)) _ (quiet_cases (weight + trying p v) v cases env g z.1 e)
        (λ vs h. InBuiltIn (z.0, extended_good vs env h e) (tt, q)) (match_good p (shape_of v) (shape_good v g))

    quiet_takes : (v : Value) → Good v → (frame : Frame) → QuietFrame frame → Does (takes store v frame)
    quiet_takes v g (Operands a done rest env) h = tt
    quiet_takes v g (Choosing a b env) h = chosen_good v _ _ (s, InBuiltIn (h.0, h.2) (tt, q), omega arith) (s, InBuiltIn (h.1, h.2) (tt, q), omega arith)
    quiet_takes v g (Switching cases env) h = quiet_cases 1 v cases env g h.0 h.1
    quiet_takes v g Joining h = tt
    quiet_takes v g _ h = absurd h

pub takes_good : (ending : ℕ) (frame : Frame) (k : Stack) → Piled ending (frame ∷ k) → (store : Store) → GoodEach store → (v : Value) → Good v → Acts ending ⊥ (λ v. ⊥) k (takes store v frame)
takes_good ending frame k p store s v g = takes_so ending k store s p.2 v g frame p.0 p.1

pub takes_quietly : (ending : ℕ) (frame : Frame) (k : Stack) → QuietOn ending (frame ∷ k) → (store : Store) → GoodEach store → (v : Value) → Good v → Acts ending ⊥ (λ v. ⊥) k (takes store v frame)
takes_quietly ending (Returning n) k q store s v g = (s, busy_value ending k q.0 v g, omega arith)
takes_quietly ending (Operands a done rest env) k q store s v g = quiet_takes ending k store s q.1 v g (Operands a done rest env) q.0
takes_quietly ending (Choosing a b env) k q store s v g = quiet_takes ending k store s q.1 v g (Choosing a b env) q.0
takes_quietly ending (Switching cases env) k q store s v g = quiet_takes ending k store s q.1 v g (Switching cases env) q.0
takes_quietly ending Joining k q store s v g = tt
takes_quietly ending _ k q store s v g = absurd q.0
