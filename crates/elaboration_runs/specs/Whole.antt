-- Executions over any number of steps: what is asked of the configurations on the way, and how Core's run then stands.
use Rattle.std.specs.Prelude.{◌≡◌, ℕ, ◌+◌, ◌≤◌, List, [], ◌∷◌, ◌++◌}
use Rattle.mo_types.specs.Graph.{head_at}
use Rattle.mo_values.specs.Shapes.{Bytes}
use Rattle.core_ir.specs.Values as core_value
use Rattle.core_ir.specs.Worlds.{Request, World, Context}
use Rattle.core_ir.specs.Executions.{run}
use Rattle.core_ir.specs.Expressions.{Core}
use Rattle.core_ir.specs.CoreMachine.{Frame, Focus, at, core_machine}
use Rattle.mo_meaning.specs.Configurations.{Surroundings}
use Rattle.mo_meaning.specs.Kernel.{Outgoing}
use Rattle.mo_meaning.specs.Turns.{refused}
use Rattle.mo_machine.specs.Values.{load}
use Rattle.mo_machine.specs.Configurations.{Configuration, Run, Still, Ended}
use Rattle.mo_machine.specs.Turns.{steps}
use Rattle.elaboration_values.specs.Belonging.{Known, Belongs}
use Rattle.elaboration_steps.specs.Follows.{HandlerMeets, Suits}
use Rattle.elaboration_runs.specs.Together.{Together}
use Rattle.elaboration_runs.specs.Calling.{SameCall, Surrounded}
use Rattle.elaboration_runs.specs.Waiting.{Accounted}

-- values stand where values of their types do, also what a call throws that is not let through
pub record Serves (c : Configuration) : Type 0 where
  pub suits : (known : List Known) → Suits known c.focus c.stack
  pub handles : (known : List Known) (u : core_value.Value) → Belongs known (load refused) u → HandlerMeets c.stack u

abbrev pub SameCalls : List Outgoing → List Request → Type 0
SameCalls [] [] = Unit {0}
SameCalls (c ∷ cs) (r ∷ rs) = SameCall c r × SameCalls cs rs
SameCalls _ _ = ⊥

module _ (program : Core) (context : Context) (nodes : ℕ) where
  -- the run comes to where the execution stands so, with its calls
  pub record Reaches (known : List Known) (w d : ℕ) (prints : List Bytes) (world : World) (f : Focus) (k : List Frame) (c : Configuration) : Type 0 where
    pub steps : ℕ
    pub weight' : ℕ
    pub depth' : ℕ
    pub prints' : List Bytes
    pub held' : ℕ
    pub known' : List Known
    pub world' : World
    pub f' : Focus
    pub k' : List Frame
    pub by : (more : ℕ) → run (core_machine program) context (steps + more) w d prints world (at program context nodes f k) ≡ run (core_machine program) context more weight' depth' prints' world' (at program context nodes f' k')
    pub grows : (more : List Known) × (known' ≡ known ++ more)
    pub calls : SameCalls c.calls world'.requests
    pub together : Together program context nodes held' known' c weight' depth' prints' world' f' k'

  abbrev pub ExecutionsFollow : Type 0
  ExecutionsFollow =
      (s : Surroundings) → context.head ≡ head_at s.types → Surrounded program context nodes s → Accounted program context nodes s
      → (n held : ℕ) (known : List Known) (c : Configuration) (w d : ℕ) (prints : List Bytes) (world : World) (f : Focus) (k : List Frame) → Together program context nodes held known c w d prints world f k → SameCalls c.calls world.requests
      → ((j : ℕ) (c' : Configuration) → steps s j c ≡ Still c' → Serves c') → (c' : Configuration) → steps s n c ≡ Still c' → Reaches known w d prints world f k c'

  module _ (s : Surroundings) (least : ℕ) (known : List Known) (w d : ℕ) (prints : List Bytes) (world : World) (f : Focus) (k : List Frame) where
    -- the run has made so many steps at least, where the execution still goes on
    abbrev pub HasPassed : Run → Type 0
    HasPassed (Still c) = (r : Reaches known w d prints world f k c) × (least ≤ r.steps)
    HasPassed (Ended c end) = Unit {0}

  -- so that an execution that goes on for ever has a run that does
  abbrev pub ExecutionsGoOn : Type 0
  ExecutionsGoOn =
      (s : Surroundings) → context.head ≡ head_at s.types → Surrounded program context nodes s → Accounted program context nodes s
      → (least held : ℕ) (known : List Known) (c : Configuration) (w d : ℕ) (prints : List Bytes) (world : World) (f : Focus) (k : List Frame) → Together program context nodes held known c w d prints world f k → SameCalls c.calls world.requests
      → ((j : ℕ) (c' : Configuration) → steps s j c ≡ Still c' → Serves c') → (n : ℕ) × HasPassed s least known w d prints world f k (steps s n c)
