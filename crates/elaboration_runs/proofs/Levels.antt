-- Moves keep the depth.
use Rattle.std.proofs.Common.{◌≡◌, ℕ, ◌+◌, [], ◌∷◌, Option, Some, None, refl, arith}
use Rattle.typed_tree.specs.Language.{Exp, Val, Name, Do, If, Switch, Group, Frame, Label, While, Repeat, For, Try, Update, NoExp, AnExp}
use Rattle.mo_machine.specs.Values.{Value}
use Rattle.mo_machine.specs.Environments.{Environment}
use Rattle.mo_machine.specs.Environments as environment
use Rattle.mo_machine.specs.Configurations.{live_on, live_state}
use Rattle.mo_machine.specs.Frames as machine
use Rattle.mo_machine.specs.Frames.{Operands, Joining, Stack, Ready}
use Rattle.mo_machine.specs.Moves.{Move, Moved, Ends, Reduces, found, looks, passes, move}

-- ---- moves

abbrev pub KeepsLive : Move → ℕ → Type 0
KeepsLive (Moved f k) n = live_state f k ≡ n
KeepsLive (Ends v) n = Unit {0}
KeepsLive Reduces n = Unit {0}

found_keeps : (o : Option Value) (k : Stack) → KeepsLive (found o k) (0 + live_on k)
found_keeps None k = tt
found_keeps (Some v) k = refl

looks_keeps : (e : Exp) (env : Environment) (k : Stack) → KeepsLive (looks e env k) (live_state (machine.Eval e env) k)
looks_keeps (Val v) env k = refl
looks_keeps (Name x) env k = found_keeps (environment.at env x) k
looks_keeps (Do a NoExp) env k = refl
looks_keeps (Do a (AnExp e es)) env k = omega arith
looks_keeps (If c a b) env k = omega arith
looks_keeps (Switch e cases) env k = omega arith
looks_keeps (Group fns b) env k = tt
looks_keeps (Frame n e) env k = omega arith
looks_keeps (Label e) env k = omega arith
looks_keeps (While c b) env k = tt
looks_keeps (Repeat b c) env k = tt
looks_keeps (For p e b) env k = omega arith
looks_keeps (Try e p b) env k = omega arith
looks_keeps (Update o e f) env k = omega arith

passes_keeps : (v : Value) (k : Stack) → KeepsLive (passes v k) (live_state (machine.Give v) k)
passes_keeps v [] = tt
passes_keeps v (Operands a done NoExp env ∷ k) = omega arith
passes_keeps v (Operands a done (AnExp e es) env ∷ k) = omega arith
passes_keeps v (Joining ∷ k) = omega arith
passes_keeps v (_ ∷ k) = tt

pub move_keeps : (f : machine.Focus) (k : Stack) → KeepsLive (move f k) (live_state f k)
move_keeps (machine.Eval e env) k = looks_keeps e env k
move_keeps (Ready a vs) k = tt
move_keeps (machine.Give v) k = passes_keeps v k
