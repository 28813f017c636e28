-- Reductions keep within what may be open, and pay for the bodies that they enter.
use Rattle.std.proofs.Common.{◌≤◌, ℕ, ◌+◌, [], ◌∷◌, Option, arith}
use Rattle.std.specs.Prelude.{max}
use Rattle.mo_types.specs.declared.node.Node.{Node}
use Rattle.mo_types.specs.declared.node.TypeId.{TypeId}
use Rattle.typed_tree.specs.Language.{Exp, Group, While, Repeat}
use Rattle.nesting.specs.Shapes.{pile}
use Rattle.mo_meaning.specs.Acts.{Given}
use Rattle.mo_machine.specs.Actions.{act}
use Rattle.mo_machine.specs.Acts.{Store}
use Rattle.mo_machine.specs.Environments.{Environment}
use Rattle.mo_machine.specs.Frames.{Frame, Testing, Repeating, Stack, Focus, Eval, Ready, Give}
use Rattle.mo_machine.specs.Reductions.{takes, reduces}
use Rattle.machine_nesting.specs.Sizes.{GoodEach}
use Rattle.machine_nesting.specs.Stacks.{Quiet, nodes_on, open_on, limit_on, Busy, Standing, IsBusy, InBuiltIn}
use Rattle.machine_nesting.proofs.Acting.{MaybeGiven, quiet_acts, acts}
use Rattle.machine_nesting.proofs.Jumping.{calmly, at_top}
use Rattle.machine_nesting.proofs.Sizes.{group_good}
use Rattle.machine_nesting.proofs.Standing.{busy_code, Reduced}
use Rattle.machine_nesting.proofs.Taking.{takes_good, takes_quietly}

module _ (ending : ℕ) (small : ending ≤ 1) (head : TypeId → Node TypeId) (given : Option Given) (g : MaybeGiven given) (store : Store) (s : GoodEach store) where
  abbrev Does : Focus → Stack → Type 0
  Does f k = Reduced ending f k (reduces head given store f k)

  code_reduces : (e : Exp) (env : Environment) (k : Stack) → Busy ending (Eval e env) k → Does (Eval e env) k
  code_reduces (Group fns b) env k h =
      let r : pile ending 1 b + open_on ending k ≤ limit_on ending k = h.room in
      (s, busy_code ending k h.piled b _ h.focus.0.1 (group_good env fns fns 0 env h.focus.0.0 h.focus.1 h.focus.1) r, omega arith)
  code_reduces (While c b) env k h =
      let r : max (pile ending 1 c) (pile ending 1 b) + open_on ending k ≤ limit_on ending k = h.room in
      (s, busy_code ending (Testing c b env ∷ k) ((h.focus.0.0, h.focus.0.1, h.focus.1), r, h.piled) c env h.focus.0.0 h.focus.1 (omega (arith, r)), omega arith)
  code_reduces (Repeat b c) env k h =
      let r : max (pile ending 1 b) (pile ending 1 c) + open_on ending k ≤ limit_on ending k = h.room in
      (s, busy_code ending (Repeating b c env ∷ k) ((h.focus.0.0, h.focus.0.1, h.focus.1), r, h.piled) b env h.focus.0.0 h.focus.1 (omega (arith, r)), omega arith)
  code_reduces _ env k h = tt

  quiet_code : (e : Exp) (env : Environment) (k : Stack) → Quiet e → Does (Eval e env) k
  quiet_code (Group fns b) env k h = absurd h
  quiet_code (While c b) env k h = absurd h
  quiet_code (Repeat b c) env k h = absurd h
  quiet_code _ env k h = tt

  under : (frame : Frame) (k : Stack) → nodes_on k ≤ nodes_on (frame ∷ k)
  under frame k = omega arith

  pub reductions_stand : (f : Focus) (k : Stack) → Standing ending f k → Does f k
  reductions_stand (Eval e env) k (IsBusy b) = code_reduces e env k b
  reductions_stand (Ready a vs) k (IsBusy b) = at_top ending (Ready a vs) k b store s (act head given store a vs) (acts ending small k b.piled store s head given g a vs b.focus)
  reductions_stand (Give v) [] (IsBusy b) = tt
  reductions_stand (Give v) (frame ∷ k) (IsBusy b) = calmly ending (Give v) (frame ∷ k) store s (takes store v frame) k (under frame k) (takes_good ending frame k b.piled store s v b.focus)
  reductions_stand (Eval e env) k (InBuiltIn h q) = quiet_code e env k h.0
  reductions_stand (Ready a vs) k (InBuiltIn h q) =
      calmly ending (Ready a vs) k store s (act head given store a vs) k (omega arith) (quiet_acts ending ⊥ (λ v. ⊥) k (λ v i. InBuiltIn i q) store s head given a vs h.0 h.1)
  reductions_stand (Give v) [] (InBuiltIn h q) = tt
  reductions_stand (Give v) (frame ∷ k) (InBuiltIn h q) = calmly ending (Give v) (frame ∷ k) store s (takes store v frame) k (under frame k) (takes_quietly ending frame k q store s v h)
