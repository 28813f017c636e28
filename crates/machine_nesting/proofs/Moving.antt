-- Moves keep within what may be open.
use Rattle.std.proofs.Common.{◌≤◌, ℕ, ◌+◌, [], ◌∷◌, Option, Some, None, arith}
use Rattle.typed_tree.specs.Language as language
use Rattle.typed_tree.specs.Language.{Exp, Val, Name, Do, If, Switch, Group, Label, While, Repeat, For, Try, Update, NoExp, AnExp}
use Rattle.nesting.specs.Shapes.{pile}
use Rattle.mo_machine.specs.Environments.{Environment, at}
use Rattle.mo_machine.specs.Frames.{Operands, Joining, Stack, Focus, Eval, Ready, Give}
use Rattle.mo_machine.specs.Moves.{Move, Moved, Ends, Reduces, found, looks, passes, move}
use Rattle.mo_machine.specs.Values.{Value, load}
use Rattle.machine_nesting.specs.Sizes.{Sized, Good, GoodAll}
use Rattle.machine_nesting.specs.Stacks.{Quiet, nodes_on, open_on, limit_on, Piled, QuietOn, Standing, IsBusy, InBuiltIn}
use Rattle.machine_nesting.proofs.Sizes.{load_good, each_append, MaybeGood, at_good}
use Rattle.machine_nesting.proofs.Standing.{busy_value, busy_ready, busy_code}

module _ (ending : ℕ) where
  abbrev pub Stands : Stack → Move → Type 0
  Stands here (Moved f k) = Standing ending f k × (nodes_on k ≤ nodes_on here)
  Stands here (Ends v) = Good v
  Stands here Reduces = Unit {0}

  module _ (k : Stack) where
    found_stands : ((v : Value) → Good v → Standing ending (Give v) k) → (o : Option Value) → MaybeGood o → Stands k (found o k)
    found_stands stands None g = tt
    found_stands stands (Some v) g = (stands v g, omega arith)

    looks_stand : (e : Exp) (env : Environment) → Sized e → GoodAll env → pile ending 1 e + open_on ending k ≤ limit_on ending k → Piled ending k → Stands k (looks e env k)
    looks_stand (Val v) env h g r p = (busy_value ending k p (load v) (load_good v h), omega arith)
    looks_stand (Name x) env h g r p = found_stands (λ v i. busy_value ending k p v i) (at env x) (at_good env x g)
    looks_stand (Do a NoExp) env h g r p = (busy_ready ending k p a [] tt, omega arith)
    looks_stand (Do a (AnExp e es)) env h g r p = (busy_code ending _ ((tt, h.1, g), omega (arith, r), p) e env h.0 g (omega (arith, r)), omega arith)
    looks_stand (If c a b) env h g r p = (busy_code ending _ ((h.1, h.2, g), omega (arith, r), p) c env h.0 g (omega (arith, r)), omega arith)
    looks_stand (Switch e cases) env h g r p = (busy_code ending _ ((h.1, g), omega (arith, r), p) e env h.0 g (omega (arith, r)), omega arith)
    looks_stand (Group fns b) env h g r p = tt
    looks_stand (language.Frame n e) env h g r p = absurd h
    looks_stand (Label e) env h g r p = (busy_code ending _ (tt, omega (arith, r), p) e env h g (omega (arith, r)), omega arith)
    looks_stand (While c b) env h g r p = tt
    looks_stand (Repeat b c) env h g r p = tt
    looks_stand (For q e b) env h g r p = (busy_code ending _ ((h.1, g), omega (arith, r), p) e env h.0 g (omega (arith, r)), omega arith)
    looks_stand (Try e q b) env h g r p = (busy_code ending _ ((h.1, g), omega (arith, r), p) e env h.0 g (omega (arith, r)), omega arith)
    looks_stand (Update o e f) env h g r p = (busy_code ending _ ((h.1, g), omega (arith, r), p) e env h.0 g (omega (arith, r)), omega arith)

    quiet_looks : (e : Exp) (env : Environment) → Quiet e → GoodAll env → QuietOn ending k → Stands k (looks e env k)
    quiet_looks (Val v) env h g q = (InBuiltIn (load_good v h) q, omega arith)
    quiet_looks (Name x) env h g q = found_stands (λ v i. InBuiltIn i q) (at env x) (at_good env x g)
    quiet_looks (Do a NoExp) env h g q = (InBuiltIn (h.0, tt) q, omega arith)
    quiet_looks (Do a (AnExp e es)) env h g q = (InBuiltIn (h.1.0, g) ((h.0, tt, h.1.1, g), q), omega arith)
    quiet_looks (If c a b) env h g q = (InBuiltIn (h.0, g) ((h.1, h.2, g), q), omega arith)
    quiet_looks (Switch e cases) env h g q = (InBuiltIn (h.0, g) ((h.1, g), q), omega arith)
    quiet_looks _ env h g q = absurd h

  passes_stand : (v : Value) (k : Stack) → Good v → Piled ending k → Stands k (passes v k)
  passes_stand v [] g p = g
  passes_stand v (Operands a done NoExp env ∷ k) g p = (busy_ready ending k p.2 a _ (each_append done (v ∷ []) p.0.0 (g, tt)), omega arith)
  passes_stand v (Operands a done (AnExp e es) env ∷ k) g p =
      let r = p.1 in
      let h = p.0 in
      (busy_code ending _ ((each_append done (v ∷ []) h.0 (g, tt), h.1.1, h.2), omega (arith, r), p.2) e env h.1.0 h.2 (omega (arith, r)), omega arith)
  passes_stand v (Joining ∷ k) g p = (busy_value ending k p.2 v g, omega arith)
  passes_stand v (_ ∷ k) g p = tt

  quiet_passes : (v : Value) (k : Stack) → Good v → QuietOn ending k → Stands k (passes v k)
  quiet_passes v [] g q = g
  quiet_passes v (Operands a done NoExp env ∷ k) g q = (InBuiltIn (q.0.0, each_append done (v ∷ []) q.0.1 (g, tt)) q.1, omega arith)
  quiet_passes v (Operands a done (AnExp e es) env ∷ k) g q = (InBuiltIn (q.0.2.0, q.0.3) ((q.0.0, each_append done (v ∷ []) q.0.1 (g, tt), q.0.2.1, q.0.3), q.1), omega arith)
  quiet_passes v (Joining ∷ k) g q = (InBuiltIn g q.1, omega arith)
  quiet_passes v (_ ∷ k) g q = tt

  pub moves_stand : (f : Focus) (k : Stack) → Standing ending f k → Stands k (move f k)
  moves_stand (Eval e env) k (IsBusy b) = looks_stand k e env b.focus.0 b.focus.1 b.room b.piled
  moves_stand (Ready a vs) k (IsBusy b) = tt
  moves_stand (Give v) k (IsBusy b) = passes_stand v k b.focus b.piled
  moves_stand (Eval e env) k (InBuiltIn h q) = quiet_looks k e env h.0 h.1 q
  moves_stand (Ready a vs) k (InBuiltIn h q) = tt
  moves_stand (Give v) k (InBuiltIn h q) = quiet_passes v k h q
