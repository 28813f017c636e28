-- Calls of shared functions, and `await`: Motoko language manual, sections "Function calls" and "Await"; IC interface
-- specification, section "Inter-canister calls".
use Rattle.std.specs.Prelude.{ℕ, ◌+◌, List, [], length, nat_lt, cond, Option, Some, None, codes}
use Rattle.mo_types.specs.Calls.{State, Open, Answered, Lost}
use Rattle.mo_values.specs.declared.error_code.ErrorCode.TheVariants as code
use Rattle.mo_values.specs.Costs.{Cost, weighing, sizes, most_levels}
use Rattle.mo_values.specs.Shapes.{Bytes, Error, Made, NoShape}
use Rattle.core_ir.specs.Choices.{on_some}
use Rattle.core_ir.specs.Programs.{Signature}
use Rattle.core_ir.specs.Values.{Value, future, future_of, SharedFunction, shared_of}
use Rattle.core_ir.specs.Worlds.{Given, Request, World, Context, with_request, open_now, next_call, state_now}

-- the most open calls of an actor, and the most bytes of a message
abbrev pub most_calls : ℕ
most_calls = 500

abbrev pub most_bytes : ℕ
most_bytes = 2097152

abbrev pub too_long : Bytes
too_long = codes "message too long"

-- what a call throws that is not let through
abbrev pub refusal : Value
refusal = Made (Error (code.CallError 2) (codes "call refused")) NoShape

-- the values whole, and the bytes
abbrev pub message_cost : List Value → Bytes → Cost
message_cost vs bytes = record { weight = sizes vs + length bytes; levels = most_levels vs }

-- a call costs its message, and the bytes of the callee and of the method's name
abbrev pub call_cost : Bytes → Bytes → List Value → Bytes → Cost
call_cost callee method vs bytes = record { weight = 1 + (length callee + length method + (sizes vs + length bytes)); levels = most_levels vs }

-- ---- a call

pub data Sent : Type 0 where
  Sends : (cost : Cost) → (world : World) → (future : Value) → Sent
  Refused : Sent
  TooLong : (cost : Cost) → Sent
  NoCall : Sent

module _ (context : Context) (world : World) where
  abbrev pub request_of : SharedFunction → Signature → Bytes → Request
  request_of f signature bytes = record { callee = f.actor; method = f.method; argument = bytes; results = signature.results; resumes = None }

  abbrev pub sent_bytes : SharedFunction → Signature → List Value → Bytes → Sent
  sent_bytes f signature vs bytes =
      cond (nat_lt most_bytes (length bytes)) (TooLong (message_cost vs bytes))
      (Sends (call_cost f.actor f.method vs bytes) (with_request world (request_of f signature bytes)) (future (next_call context world)))

  -- a call is let through below the most open ones; then its message is made
  abbrev pub sent_to : SharedFunction → Signature → List Value → Sent
  sent_to f signature vs =
      cond (nat_lt (open_now context world) most_calls) (on_some NoCall (context.message signature.parameters vs) (sent_bytes f signature vs)) Refused

  abbrev pub sent : Signature → Value → List Value → Sent
  sent signature f vs = on_some NoCall (shared_of f) (λ f. sent_to f signature vs)

-- ---- an `await`

pub data Awaited : Type 0 where
  Suspends : (cost : Cost) → (world : World) → (on : Option ℕ) → Awaited
  NoRoom : Awaited
  NoFuture : Awaited

abbrev pub resume_name : Bytes
resume_name = codes "__resume"

-- the nodes of the body that waits count
module _ (context : Context) (world : World) (nodes : ℕ) where
  -- an answered future is resumed by a call of the actor to itself
  abbrev pub resume_request : ℕ → Bytes → Request
  resume_request number bytes = record { callee = context.own; method = resume_name; argument = bytes; results = []; resumes = Some number }

  abbrev pub resumed_by : ℕ → Bytes → Awaited
  resumed_by number bytes =
      Suspends (weighing (1 + nodes + (length context.own + length resume_name + length bytes))) (with_request world (resume_request number bytes)) (Some (next_call context world))

  abbrev pub awaited_in : ℕ → Option (State Given) → Awaited
  awaited_in number None = NoFuture
  awaited_in number (Some Open) = Suspends (weighing (1 + nodes)) world (Some number)
  awaited_in number (Some (Answered value)) = cond (nat_lt (open_now context world) most_calls) (on_some NoFuture (context.message [] []) (resumed_by number)) NoRoom
  awaited_in number (Some Lost) = Suspends (weighing (1 + nodes)) world None

  abbrev pub awaited : Value → Awaited
  awaited v = on_some NoFuture (future_of v) (λ number. awaited_in number (state_now context world number))
