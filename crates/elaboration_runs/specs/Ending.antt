-- How executions end: what it is that Core's run ends as an execution does, and that it never shows more before (Motoko language manual, sections "Shared
-- functions", "Await" and "Traps").
use Rattle.std.specs.Prelude.{◌≡◌, ℕ, ◌+◌, ◌*◌, ◌≤◌, true, List, [], ◌∷◌, ◌++◌, Some, None}
use Rattle.mo_types.specs.Graph.{head_at}
use Rattle.mo_values.specs.Shapes.{Bytes, Future}
use Rattle.mo_actor.specs.Results.{IsPrefix}
use Rattle.core_ir.specs.Values as core_value
use Rattle.core_ir.specs.Worlds.{World, Context}
use Rattle.core_ir.specs.Executions.{End, Replies, Rejects, Waits, Over, Stand, run}
use Rattle.core_ir.specs.Executions as execution
use Rattle.core_ir.specs.Expressions.{Core}
use Rattle.core_ir.specs.CoreMachine.{Frame, Focus, State, Waiting, at, core_machine}
use Rattle.typed_tree.specs.declared.action.Action.TheVariants as action
use Rattle.mo_meaning.specs.Configurations.{Surroundings}
use Rattle.mo_machine.specs.Values.{Value, Made, NoValue}
use Rattle.mo_machine.specs.Configurations.{Configuration, Returns, Suspends, Sleeps, Traps, Breaks, Run, Still, Ended}
use Rattle.mo_machine.specs.Frames.{Ready}
use Rattle.mo_machine.specs.Jumps.{nodes_around}
use Rattle.mo_machine.specs.Turns.{rejects, steps}
use Rattle.elaboration_values.specs.Belonging.{Known, Belongs}
use Rattle.elaboration_steps.specs.Stacks.{Labels, StackBelongs, WorldBelongs}
use Rattle.elaboration_steps.specs.Follows.{owed}
use Rattle.elaboration_runs.specs.Together.{Together}
use Rattle.elaboration_runs.specs.Calling.{Surrounded}
use Rattle.elaboration_runs.specs.Waiting.{Accounted}
use Rattle.elaboration_runs.specs.Whole.{Serves, SameCalls}

module _ (program : Core) (context : Context) (nodes : ℕ) where
  -- what a run shows that is over, of the execution's last configuration
  pub record Shows (c : Configuration) (w d : ℕ) (prints : List Bytes) : Type 0 where
    pub prints_are : prints ≡ c.prints
    pub light : w ≤ 2 * c.weight + owed c.stack
    pub shallow : d ≤ c.depth

  -- store, groups and calls are those of the execution
  pub record Leaves (known : List Known) (c : Configuration) (world : World) : Type 0 where
    pub worlds : WorldBelongs program.groups known context.globals c.store world
    pub calls : SameCalls c.calls world.requests

  -- what waits at an `await`
  pub record Stops (known : List Known) (c : Configuration) (stack : List Frame) : Type 0 where
    pub l : Labels
    pub less : ℕ
    pub around : StackBelongs program.groups known context.globals nodes true l less c.stack stack
    pub bodies : nodes_around 0 c.stack ≡ nodes
    pub future : ℕ
    pub focus : c.focus ≡ Ready action.Await (Made (Future future) NoValue ∷ [])

  -- a run with these ends as the execution did
  pub data Finish (known : List Known) (w d : ℕ) (prints : List Bytes) (world : World) : Run → End Waiting → Type 0 where
    Returned : (c : Configuration) (v : Value) (u : core_value.Value) → Shows c w d prints → Leaves known c world → Belongs known v u → Finish known w d prints world (Ended c (Returns v)) (Replies u)
    Thrown : (c : Configuration) (error : Value) (u : core_value.Value) → Shows c w d prints → Leaves known c world → Belongs known error u → Finish known w d prints world (rejects c error) (Rejects u)
    Trapped : (c : Configuration) (text : Bytes) → Shows c w d prints → Finish known w d prints world (Ended c (Traps text)) (execution.Traps text)
    Suspended : (c : Configuration) (call : ℕ) (stack : List Frame) → Shows c w d prints → Leaves known c world → Stops known c stack
        → Finish known w d prints world (Ended c (Suspends call (nodes_around 0 c.stack))) (Waits (Some call) (record { stack = stack; nodes = nodes }))
    Asleep : (c : Configuration) (stack : List Frame) → Shows c w d prints → Leaves known c world → Finish known w d prints world (Ended c Sleeps) (Waits None (record { stack = stack; nodes = nodes }))

  module _ (known : List Known) (w d : ℕ) (prints : List Bytes) (world : World) (f : Focus) (k : List Frame) where
    -- the run is over, and ends so
    pub record Finishes (r : Run) : Type 0 where
      pub steps : ℕ
      pub weight' : ℕ
      pub depth' : ℕ
      pub prints' : List Bytes
      pub known' : List Known
      pub world' : World
      pub end : End Waiting
      pub by : (more : ℕ) → run (core_machine program) context (steps + more) w d prints world (at program context nodes f k) ≡ Over weight' depth' prints' world' end
      pub grows : (more : List Known) × (known' ≡ known ++ more)
      pub finish : Finish known' weight' depth' prints' world' r end

  abbrev pub configuration_of : Run → Configuration
  configuration_of (Still c) = c
  configuration_of (Ended c end) = c

  -- a run has shown no more than the execution so far, or it is over as that is
  abbrev pub Covers : List Known → Run → Stand State Waiting → Type 0
  Covers known r (execution.Still w d prints world s) =
      IsPrefix prints (configuration_of r).prints × (w ≤ 2 * (configuration_of r).weight + owed (configuration_of r).stack) × (d ≤ (configuration_of r).depth)
  Covers known r (Over w d prints world end) = (known' : List Known) × ((more : List Known) × (known' ≡ known ++ more)) × Finish known' w d prints world r end

  -- after any number of steps of the run there is one of steps of the execution, which does not break
  abbrev pub ExecutionsCover : Type 0
  ExecutionsCover =
      (s : Surroundings) → context.head ≡ head_at s.types → Surrounded program context nodes s → Accounted program context nodes s
      → (held : ℕ) (known : List Known) (c : Configuration) (w d : ℕ) (prints : List Bytes) (world : World) (f : Focus) (k : List Frame) → Together program context nodes held known c w d prints world f k → SameCalls c.calls world.requests
      → ((j : ℕ) (c' : Configuration) → steps s j c ≡ Still c' → Serves c') → ((j : ℕ) (c' : Configuration) → steps s j c ≡ Ended c' Breaks → ⊥)
      → (n : ℕ) → (m : ℕ) × Covers known (steps s m c) (run (core_machine program) context n w d prints world (at program context nodes f k))
