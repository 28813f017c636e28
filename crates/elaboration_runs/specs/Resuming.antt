-- What waits goes on with the answer: what it is that an execution and Core's run do so alike.
use Rattle.std.specs.Prelude.{◌≡◌, ℕ, suc, ◌+◌, ◌≤◌, true, List, [], ◌∷◌}
use Rattle.mo_values.specs.Costs.{weighing}
use Rattle.mo_values.specs.Shapes.{Future}
use Rattle.core_ir.specs.Values as core_value
use Rattle.core_ir.specs.Worlds as worlds
use Rattle.core_ir.specs.Worlds.{World, Context}
use Rattle.core_ir.specs.Executions.{Resumes, Go, heavier}
use Rattle.core_ir.specs.Expressions as core
use Rattle.core_ir.specs.Expressions.{NoExp, Core}
use Rattle.core_ir.specs.CoreMachine.{Frame, Arguments, Give, Waiting, at, enters, focused}
use Rattle.typed_tree.specs.declared.action.Action.TheVariants as action
use Rattle.typed_tree.specs.Language as language
use Rattle.mo_meaning.specs.Acts.{Gets, Fails}
use Rattle.mo_meaning.specs.Configurations.{Surroundings}
use Rattle.mo_machine.specs.Values.{Made, NoValue, load}
use Rattle.mo_machine.specs.Acts.{Store}
use Rattle.mo_machine.specs.Bodies.{beginning}
use Rattle.mo_machine.specs.Configurations.{Configuration, Still, moved}
use Rattle.mo_machine.specs.Frames as machine
use Rattle.mo_machine.specs.Frames.{Joining, Stack, Ready}
use Rattle.mo_machine.specs.Jumps.{throw}
use Rattle.mo_machine.specs.Turns.{give, given_turn}
use Rattle.elaboration_values.specs.Belonging.{Known, Belongs}
use Rattle.elaboration_steps.specs.Stacks.{Labels, StackBelongs, WorldBelongs}
use Rattle.elaboration_steps.specs.Follows.{owed}
use Rattle.elaboration_runs.specs.Together.{Together}

-- ends of branches, which cost nothing in the source
abbrev pub endings : Stack → ℕ
endings [] = 0
endings (Joining ∷ k) = suc (endings k)
endings (_ ∷ k) = endings k

module _ (program : Core) (context : Context) (nodes : ℕ) (s : Surroundings) where
  -- a body that waits with this stack
  abbrev pub waits_with : List Frame → Waiting
  waits_with frames = record { stack = frames; nodes = nodes }

  abbrev pub resumed : ℕ → Store → Stack → Configuration
  resumed call store k = beginning nodes store (Ready action.Await (Made (Future call) NoValue ∷ [])) k

  module _ (known : List Known) (store : Store) (world : World) (call : ℕ) (k : Stack) (frames : List Frame) where
    -- with a value
    pub record GoesWith (v : language.Value) (w : core_value.Value) : Type 0 where
      pub held : ℕ
      pub entry : enters program context world (Resumes (waits_with frames) (worlds.Gets w)) ≡ Go (weighing (1 + nodes)) [] world (at program context nodes (Give w) frames)
      pub turn : give s (Gets v) (resumed call store k) ≡ Still (moved (weighing 1) store (machine.Give (load v)) k (resumed call store k))
      pub together : Together program context nodes held known (moved (weighing 1) store (machine.Give (load v)) k (resumed call store k)) (1 + nodes) 0 [] world (Give w) frames

    -- with an error, as where it is thrown
    abbrev pub throwing : core_value.Value → List Frame
    throwing w = Arguments core.Throw [] NoExp [] ∷ frames

    abbrev pub thrown_at : language.Value → Configuration
    thrown_at e = beginning nodes store (Ready action.Throw (load e ∷ [])) k

    pub record ThrowsWith (e : language.Value) (w : core_value.Value) : Type 0 where
      pub held : ℕ
      pub entry : enters program context world (Resumes (waits_with frames) (worlds.Throws w)) ≡ heavier nodes (focused program context nodes world (Give w) (throwing w))
      pub turn : give s (Fails e) (resumed call store k) ≡ given_turn s (resumed call store k) (throw store (weighing 1) (load e) k)
      pub together : Together program context nodes held known (thrown_at e) nodes 0 [] world (Give w) (throwing w)

  -- what waited belongs to the stack of the execution; ends of branches are no more than the body's nodes and what is owed
  abbrev pub AnswersFollow : Type 0
  AnswersFollow =
      (known : List Known) (store : Store) (world : World) (call : ℕ) (l : Labels) (held : ℕ) (k : Stack) (frames : List Frame) → StackBelongs program.groups known context.globals nodes true l held k frames
      → WorldBelongs program.groups known context.globals store world → endings k ≤ nodes + owed k
      → ((v : language.Value) (w : core_value.Value) → Belongs known (load v) w → GoesWith known store world call k frames v w)
      × ((e : language.Value) (w : core_value.Value) → Belongs known (load e) w → ThrowsWith known store world call k frames e w)
