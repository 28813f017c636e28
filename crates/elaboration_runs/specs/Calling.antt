-- Calls of other actors: what an execution and Core's run know of the calls so far and of messages, and what it is that they make a call alike.
use Rattle.std.specs.Prelude.{◌≡◌, ℕ, ◌+◌, ◌≤◌, true, false, List, [], ◌∷◌, ◌++◌, length, nat_lt, Some, None}
use Rattle.mo_types.specs.Calls.{open_count, next_number}
use Rattle.mo_types.specs.declared.datum.Datum.TheVariants as part
use Rattle.mo_types.specs.declared.node.TypeId.{TypeId}
use Rattle.mo_values.specs.Costs.{weighing}
use Rattle.mo_values.specs.Shapes.{Bytes, Leaf, Future}
use Rattle.core_ir.specs.Values as core_value
use Rattle.core_ir.specs.Worlds.{Request, World, Context}
use Rattle.core_ir.specs.Executions.{run}
use Rattle.core_ir.specs.Executions as execution
use Rattle.core_ir.specs.Expressions.{Core}
use Rattle.core_ir.specs.CoreMachine.{Frame, Focus, at, core_machine}
use Rattle.typed_tree.specs.declared.action.Action.TheVariants as action
use Rattle.mo_meaning.specs.Configurations.{Surroundings}
use Rattle.mo_meaning.specs.Kernel.{Outgoing}
use Rattle.mo_meaning.specs.Turns.{most_calls, most_bytes, too_long, refused}
use Rattle.mo_machine.specs.Values.{Value, Made, NoValue, load}
use Rattle.mo_machine.specs.Configurations.{Configuration, moved, weighed, open_now, next_call, with_call}
use Rattle.mo_machine.specs.Frames as machine
use Rattle.mo_machine.specs.Frames.{Ready}
use Rattle.mo_machine.specs.Jumps.{throw}
use Rattle.mo_machine.specs.Messages.{message_cost}
use Rattle.mo_machine.specs.Turns.{call_cost, message}
use Rattle.elaboration_values.specs.Belonging.{Known, Belongs, EachBelongs}
use Rattle.elaboration_steps.specs.Follows.{start, HandlerMeets}
use Rattle.elaboration_runs.specs.Together.{Together, IsOver, ActTurns}

-- the same call
pub record SameCall (call : Outgoing) (r : Request) : Type 0 where
  pub callee : r.callee ≡ call.callee
  pub method : r.method ≡ call.method
  pub argument : r.argument ≡ call.argument
  pub results : r.results ≡ call.results
  pub resumes : r.resumes ≡ call.resumes

module _ (program : Core) (context : Context) (nodes : ℕ) (s : Surroundings) where
  -- as many calls are open, the next one has the same number, and values that belong together have the same bytes
  pub record Surrounded : Type 0 where
    pub room : open_count context.table ≡ open_count s.table
    pub next : next_number context.table ≡ next_number s.table
    pub bytes : (known : List Known) (ts : List TypeId) (vs : List Value) (ws : List core_value.Value) → EachBelongs known vs ws → context.message ts ws ≡ message s ts vs

  module _ (known : List Known) (c : Configuration) (w d : ℕ) (prints : List Bytes) (world : World) (f : Focus) (k : List Frame) where
    -- the run makes it, and stands where the execution does behind it
    pub record Calls (call : Outgoing) (c' : Configuration) : Type 0 where
      pub steps : ℕ
      pub weight' : ℕ
      pub depth' : ℕ
      pub prints' : List Bytes
      pub held' : ℕ
      pub world' : World
      pub f' : Focus
      pub k' : List Frame
      pub request : Request
      pub by : (more : ℕ) → run (core_machine program) context (steps + more) w d prints world (at program context nodes f k) ≡ run (core_machine program) context more weight' depth' prints' world' (at program context nodes f' k')
      pub some : 1 ≤ steps
      pub same : SameCall call request
      pub requests : world'.requests ≡ world.requests ++ request ∷ []
      pub together : Together program context nodes held' known c' weight' depth' prints' world' f' k'

    abbrev pub call_with : Bytes → Bytes → List TypeId → Bytes → Outgoing
    call_with p name rs bytes = record { callee = p; method = name; argument = bytes; results = rs; resumes = None }

    -- the future, which is the number of the call
    abbrev pub future : Value
    future = Made (Future (next_call s c)) NoValue

    -- a call of this method, whose argument is of these types
    pub record CallFollows (p name : Bytes) (ps rs : List TypeId) (vs : List Value) : Type 0 where
      -- it is not let through
      pub refuses : nat_lt (open_now s c) most_calls ≡ false → ((u : core_value.Value) → Belongs known (load refused) u → HandlerMeets c.stack u)
          → ActTurns program context nodes (start c.focus c.stack) known w d prints world f k c (throw c.store (weighing 1) (load refused) c.stack)
      pub traps : nat_lt (open_now s c) most_calls ≡ true → (bytes : Bytes) → message s ps vs ≡ Some bytes → nat_lt most_bytes (length bytes) ≡ true
          → IsOver program context nodes (start c.focus c.stack) known w d prints world f k (weighed (message_cost vs bytes) c) (execution.Traps too_long)
      pub calls : nat_lt (open_now s c) most_calls ≡ true → (bytes : Bytes) → message s ps vs ≡ Some bytes → nat_lt most_bytes (length bytes) ≡ false
          → Calls (call_with p name rs bytes) (moved (weighing 1) c.store (machine.Give future) c.stack (with_call (call_with p name rs bytes) (weighed (call_cost p name vs bytes) c)))

  abbrev pub CallsFollow : Type 0
  CallsFollow =
      Surrounded → (held : ℕ) (known : List Known) (c : Configuration) (w d : ℕ) (prints : List Bytes) (world : World) (f : Focus) (k : List Frame) → Together program context nodes held known c w d prints world f k
      → length world.requests ≡ length c.calls → (p name : Bytes) (ps rs : List TypeId) (vs : List Value) → c.focus ≡ Ready (action.Send ps rs) (Made (Leaf (part.Method p name)) NoValue ∷ vs)
      → CallFollows known c w d prints world f k p name ps rs vs
