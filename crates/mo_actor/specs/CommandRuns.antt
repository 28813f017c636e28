-- How the commands of the rows' language run: a command a turn.
use Rattle.std.specs.Prelude.{ℕ, zero, suc, ◌+◌, List, [], ◌∷◌, ◌++◌, Bool, true, false, Option, Some, None, slice_get, codes}
use Rattle.mo_types.specs.Calls.{CallTable, State, Open, Answered, Lost, next_number, opened, call_at, state_of}
use Rattle.mo_actor.specs.Executions.{Completion, Completes, Traps, Progress, Execution}
use Rattle.mo_actor.specs.Programs.{Replies, Rejects, OutgoingCall, Ending, Answers, Awaits, AwaitsNothing, Effects}
use Rattle.mo_actor.specs.Commands.{Results, NoResult, Value, Command, Body, command_language, empty, nat_message, text_message}
use Rattle.mo_actor.specs.Commands as command

pub record Machine : Type 0 where
  pub prints : List (List ℕ)
  pub weight : ℕ
  pub table : CallTable Results Value
  pub calls : List (OutgoingCall command_language)
  pub store : ℕ
  pub body : Body

pub data Standing : Type 0 where
  Still : (m : Machine) → Standing
  Ended : (m : Machine) → (end : Completion (Effects command_language)) → Standing

-- the machine before the commands that are left, one turn later
abbrev pub turned : List Command → Machine → Machine
turned left m = record m { weight = m.weight + 1; body = record m.body { commands = left } }

abbrev pub completed : Machine → Ending command_language → Standing
completed m ending = Ended m (Completes (record { store = m.store; calls = m.calls; ending = ending }))

-- a further call
abbrev pub with_call : (callee method : List ℕ) → Results → Option ℕ → Machine → Machine
with_call callee method results resumes m = record m {
  table = opened m.table 0 results resumes;
  calls = m.calls ++ record { callee = callee; method = method; argument = empty; results = results; resumes = resumes } ∷ [];
}

abbrev pub with_future : ℕ → Machine → Machine
with_future number m = record m { body = record m.body { futures = m.body.futures ++ number ∷ [] } }

-- An await waits on an open call; on an answered future it calls the actor's own `__resume`; on a lost one it waits on nothing.
abbrev pub awaited : (own : List ℕ) → (caught : Bool) → ℕ → Machine → Option (State Value) → Standing
awaited own caught number m None = Ended m (Traps (codes "no such call"))
awaited own caught number m (Some Open) = completed m (Awaits number (record { caught = caught; body = m.body }))
awaited own caught number m (Some (Answered value)) =
    completed (with_call own (codes "__resume") NoResult (Some number) m) (Awaits (next_number m.table) (record { caught = caught; body = m.body }))
awaited own caught number m (Some Lost) = completed m AwaitsNothing

abbrev pub await_place : (own : List ℕ) → (caught : Bool) → Machine → Option ℕ → Standing
await_place own caught m None = Ended m (Traps (codes "no such future"))
await_place own caught m (Some number) = awaited own caught number m (state_of (call_at m.table number))

abbrev pub turn : (own : List ℕ) → Machine → List Command → Standing
turn own m [] = completed m (Answers (Replies empty))
turn own m (command.Add n ∷ left) = Still (record (turned left m) { store = m.store + n })
turn own m (command.Load ∷ left) = Still (record (turned left m) { body = record { commands = left; number = m.store; futures = m.body.futures } })
turn own m (command.Put ∷ left) = Still (record (turned left m) { store = m.body.number })
turn own m (command.Increase n ∷ left) = Still (record (turned left m) { body = record { commands = left; number = m.body.number + n; futures = m.body.futures } })
turn own m (command.Print text ∷ left) = Still (record (turned left m) { prints = m.prints ++ text ∷ [] })
turn own m (command.Send callee method results ∷ left) = Still (with_call callee method results None (with_future (next_number m.table) (turned left m)))
turn own m (command.Await place ∷ left) = await_place own false (turned left m) (slice_get m.body.futures place)
turn own m (command.TryAwait place ∷ left) = await_place own true (turned left m) (slice_get m.body.futures place)
turn own m (command.ReplyNumber ∷ left) = completed (turned left m) (Answers (Replies (nat_message m.body.number)))
turn own m (command.ReplyText text ∷ left) = completed (turned left m) (Answers (Replies (text_message text)))
turn own m (command.Throw message ∷ left) = completed (turned left m) (Answers (Rejects 4 message))
turn own m (command.Trap text ∷ left) = Ended (turned left m) (Traps text)
turn own m (command.Work weight ∷ left) = Still (record (turned left m) { weight = m.weight + 1 + weight })
turn own m (command.Spin ∷ left) = Still (turned (command.Spin ∷ left) m)

abbrev pub and_then : (Machine → Standing) → Standing → Standing
and_then go (Still m) = go m
and_then go (Ended m end) = Ended m end

abbrev pub turns : (own : List ℕ) → ℕ → Machine → Standing
turns own zero m = Still m
turns own (suc n) m = and_then (turns own n) (turn own m m.body.commands)

-- one frame stands open
abbrev pub progress : Standing → Progress (Effects command_language)
progress (Still m) = record { prints = m.prints; weight = m.weight; depth = 16; completion = None }
progress (Ended m end) = record { prints = m.prints; weight = m.weight; depth = 16; completion = Some end }

abbrev pub machine : CallTable Results Value → ℕ → Body → Machine
machine table store body = record { prints = []; weight = 0; table = table; calls = []; store = store; body = body }

abbrev pub body_run : (own : List ℕ) → CallTable Results Value → ℕ → Body → Execution (Effects command_language)
body_run own table store body n = progress (turns own n (machine table store body))

-- ---- hooks and initialisers, of which the store alone is seen

abbrev pub completion_as : {A : Type 0} → (ℕ → A) → Option (Completion (Effects command_language)) → Option (Completion A)
completion_as f None = None
completion_as f (Some (Completes effects)) = Some (Completes (f effects.store))
completion_as f (Some (Traps text)) = Some (Traps text)

abbrev pub progress_as : {A : Type 0} → (ℕ → A) → Progress (Effects command_language) → Progress A
progress_as f p = record { prints = p.prints; weight = p.weight; depth = p.depth; completion = completion_as f p.completion }

abbrev pub as_body : List Command → Body
as_body cs = record { commands = cs; number = 0; futures = [] }

abbrev pub hook_run : {A : Type 0} → (ℕ → A) → (own : List ℕ) → List Command → ℕ → Execution A
hook_run f own cs store n = progress_as f (body_run own (record { first = 0; calls = [] }) store (as_body cs) n)
