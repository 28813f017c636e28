-- Where the machine may stand on a stack that is not too high, and what an action may do there.
use Rattle.std.proofs.Common.{◌≤◌, ℕ, ◌+◌, List, ◌++◌, arith}
use Rattle.typed_tree.specs.declared.action.Action.{Action}
use Rattle.typed_tree.specs.Language.{Exp}
use Rattle.nesting.specs.Shapes.{pile}
use Rattle.mo_machine.specs.Values.{Value}
use Rattle.mo_machine.specs.Environments.{Environment}
use Rattle.mo_machine.specs.Acts.{Act, Goes, Prints, Asks, Awaits, Leaves, Throws, Traps, Stuck}
use Rattle.mo_machine.specs.Frames.{Stack, Focus, Eval, Ready, Give}
use Rattle.machine_nesting.specs.Sizes.{Sized, Good, GoodAll, GoodEach}
use Rattle.machine_nesting.specs.Stacks.{nodes_on, open_on, limit_on, Piled, IsBusy, Standing, Waits}
use Rattle.machine_nesting.proofs.Counting.{room}

module _ (ending : ℕ) where
  pub busy_value : (k : Stack) → Piled ending k → (v : Value) → Good v → Standing ending (Give v) k
  busy_value k p v g = IsBusy (record { focus = g; room = let x : open_on ending k ≤ limit_on ending k = room ending k p in omega (arith, x); piled = p })

  pub busy_ready : (k : Stack) → Piled ending k → (a : Action) (vs : List Value) → GoodEach vs → Standing ending (Ready a vs) k
  busy_ready k p a vs g = IsBusy (record { focus = g; room = let x : open_on ending k ≤ limit_on ending k = room ending k p in omega (arith, x); piled = p })

  pub busy_code : (k : Stack) → Piled ending k → (e : Exp) (env : Environment) → Sized e → GoodAll env → pile ending 1 e + open_on ending k ≤ limit_on ending k → Standing ending (Eval e env) k
  busy_code k p e env s g r = IsBusy (record { focus = (s, g); room = r; piled = p })

  -- what an action may do on this stack: awaits if that is asked for, and jumps with such values
  module _ (Waiting : Type 0) (Jumps : Value → Type 0) (k : Stack) where
    abbrev pub Acts : Act → Type 0
    Acts (Goes cost store f more) = GoodEach store × Standing ending f (more ++ k) × (nodes_on (more ++ k) ≤ cost.weight + nodes_on k)
    Acts (Prints cost text f more) = Standing ending f (more ++ k) × (nodes_on (more ++ k) ≤ cost.weight + nodes_on k)
    Acts (Asks request) = Unit {0}
    Acts (Awaits nodes call) = Waiting
    Acts (Leaves labels v) = Jumps v
    Acts (Throws cost error) = Jumps error
    Acts (Traps cost text) = Unit {0}
    Acts Stuck = Unit {0}

  -- what a reduction may do where the machine stands at f and k
  module _ (f : Focus) (k : Stack) where
    abbrev pub Reduced : Act → Type 0
    Reduced (Goes cost store g more) = GoodEach store × Standing ending g more × (nodes_on more ≤ cost.weight + nodes_on k)
    Reduced (Prints cost text g more) = Standing ending g more × (nodes_on more ≤ cost.weight + nodes_on k)
    Reduced (Asks request) = Unit {0}
    Reduced (Awaits nodes call) = Waits ending nodes f k
    Reduced (Leaves labels v) = Unit {0}
    Reduced (Throws cost error) = Unit {0}
    Reduced (Traps cost text) = Unit {0}
    Reduced Stuck = Unit {0}
