-- An `await`: what an execution and Core's run know of the calls so far, and what it is that they wait alike.
use Rattle.std.specs.Prelude.{◌≡◌, ℕ, ◌+◌, ◌*◌, ◌≤◌, true, false, List, [], ◌∷◌, ◌++◌, length, nat_lt, Option, Some, None}
use Rattle.mo_types.specs.Calls.{State, Open, Answered, Lost, call_at, state_of}
use Rattle.mo_values.specs.Costs.{weighing}
use Rattle.mo_values.specs.Shapes.{Bytes, Future}
use Rattle.core_ir.specs.Values as core_value
use Rattle.core_ir.specs.Worlds as worlds
use Rattle.core_ir.specs.Worlds.{Request, World, Context}
use Rattle.core_ir.specs.Executions.{Waits, Over, run}
use Rattle.core_ir.specs.Expressions.{Core}
use Rattle.core_ir.specs.CoreMachine.{Frame, Focus, at, core_machine}
use Rattle.typed_tree.specs.declared.action.Action.TheVariants as action
use Rattle.mo_meaning.specs.Acts.{Given}
use Rattle.mo_meaning.specs.Configurations.{Surroundings}
use Rattle.mo_meaning.specs.Turns.{most_calls, resume_name, refused}
use Rattle.mo_machine.specs.Values.{Made, NoValue, load}
use Rattle.mo_machine.specs.Configurations.{Configuration, weighed, open_now, next_call, state_now, with_call}
use Rattle.mo_machine.specs.Frames.{Ready}
use Rattle.mo_machine.specs.Jumps.{throw, nodes_around}
use Rattle.mo_machine.specs.Turns.{call_cost, message, resume_call}
use Rattle.elaboration_values.specs.Belonging.{Known, Belongs}
use Rattle.elaboration_steps.specs.Stacks.{Labels, StackBelongs}
use Rattle.elaboration_steps.specs.Follows.{start, owed, HandlerMeets}
use Rattle.elaboration_runs.specs.Together.{Together, ActTurns}
use Rattle.elaboration_runs.specs.Calling.{SameCall, Surrounded}

-- a call stands so in both
abbrev pub SameState : Option (State Given) → Option (State worlds.Given) → Type 0
SameState None None = Unit {0}
SameState (Some Open) (Some Open) = Unit {0}
SameState (Some (Answered g)) (Some (Answered h)) = Unit {0}
SameState (Some Lost) (Some Lost) = Unit {0}
SameState _ _ = ⊥

module _ (program : Core) (context : Context) (nodes : ℕ) (s : Surroundings) where
  -- the actor is the same, and each call that was there stands so in both
  pub record Accounted : Type 0 where
    pub own : context.own ≡ s.own
    pub states : (number : ℕ) → SameState (state_of (call_at s.table number)) (state_of (call_at context.table number))

  module _ (known : List Known) (c : Configuration) (w d : ℕ) (prints : List Bytes) (world : World) (f : Focus) (k : List Frame) where
    -- the run is over and waits on this call or on none, with these requests; what waits belongs to the stack of the execution
    pub record Suspended (on : Option ℕ) (requests : List Request) (c' : Configuration) : Type 0 where
      pub steps : ℕ
      pub weight' : ℕ
      pub depth' : ℕ
      pub prints' : List Bytes
      pub l : Labels
      pub less : ℕ
      pub stack : List Frame
      pub by : (more : ℕ) → run (core_machine program) context (steps + more) w d prints world (at program context nodes f k)
          ≡ Over weight' depth' prints' (record { store = world.store; groups = world.groups; requests = requests }) (Waits on (record { stack = stack; nodes = nodes }))
      pub prints_are : prints' ≡ c'.prints
      pub light : weight' + less ≤ 2 * c'.weight + owed c'.stack
      pub shallow : depth' ≤ c'.depth
      pub around : StackBelongs program.groups known context.globals nodes true l less c'.stack stack
      pub bodies : nodes_around 0 c'.stack ≡ nodes

    abbrev pub waiting : Configuration
    waiting = weighed (weighing (1 + nodes_around 0 c.stack)) c

    abbrev pub resuming : ℕ → Bytes → Configuration
    resuming call bytes = with_call (resume_call s call bytes) (weighed (weighing (1 + nodes_around 0 c.stack + (call_cost s.own resume_name [] bytes).weight)) c)

    -- an `await` of the future of this call
    pub record AwaitFollows (call : ℕ) : Type 0 where
      pub waits : state_now s c call ≡ Some Open → Suspended (Some call) world.requests waiting
      pub sleeps : state_now s c call ≡ Some Lost → Suspended None world.requests waiting
      -- it is answered: the actor calls itself, where that is let through
      pub refuses : (g : Option Given) → state_now s c call ≡ Some (Answered g) → nat_lt (open_now s c) most_calls ≡ false → ((u : core_value.Value) → Belongs known (load refused) u → HandlerMeets c.stack u)
          → ActTurns program context nodes (start c.focus c.stack) known w d prints world f k c (throw c.store (weighing 1) (load refused) c.stack)
      pub resumes : (g : Option Given) → state_now s c call ≡ Some (Answered g) → nat_lt (open_now s c) most_calls ≡ true → (bytes : Bytes) → message s [] [] ≡ Some bytes
          → (request : Request) × SameCall (resume_call s call bytes) request × Suspended (Some (next_call s c)) (world.requests ++ request ∷ []) (resuming call bytes)

  abbrev pub AwaitsFollow : Type 0
  AwaitsFollow =
      Surrounded program context nodes s → Accounted → (held : ℕ) (known : List Known) (c : Configuration) (w d : ℕ) (prints : List Bytes) (world : World) (f : Focus) (k : List Frame) → Together program context nodes held known c w d prints world f k
      → length world.requests ≡ length c.calls → (call : ℕ) → c.focus ≡ Ready action.Await (Made (Future call) NoValue ∷ []) → AwaitFollows known c w d prints world f k call
