-- A program, as far as the run of its actor speaks of it: a record of functions.
use Rattle.std.specs.Prelude.{ℕ, List, Option}
use Rattle.mo_types.specs.Calls.{CallTable}
use Rattle.mo_actor.specs.Languages.{Language}
use Rattle.mo_actor.specs.Executions.{Execution, Settles, ReadingCost}

-- The answer to an incoming call: IC interface specification, section "Call context".
pub data Answer : Type 0 where
  Replies : (bytes : List ℕ) → Answer
  Rejects : (code : ℕ) → (text : List ℕ) → Answer

-- A call that an execution makes: Motoko language manual, section "Shared functions".
pub record OutgoingCall (L : Language) : Type 0 where
  -- the principal of the callee
  pub callee : List ℕ
  pub method : List ℕ
  pub argument : List ℕ
  pub results : L.results
  -- the number of the call whose answered future it resumes
  pub resumes : Option ℕ

-- How a completed execution leaves its activation: Motoko language manual, sections "Await" and "Return".
pub data Ending (L : Language) : Type 0 where
  -- the incoming call is answered
  Answers : (answer : Answer) → Ending L
  -- it waits on the call of this number
  Awaits : (number : ℕ) → (waiting : L.waiting) → Ending L
  -- it waits on no call
  AwaitsNothing : Ending L
  -- as it was
  Unchanged : Ending L

-- What a completed execution leaves: the store, the calls that it made, in order, and how it leaves its activation.
pub record Effects (L : Language) : Type 0 where
  pub store : L.store
  pub calls : List (OutgoingCall L)
  pub ending : Ending L

-- A program. What it runs is given the actor's own principal, and the table of outgoing calls as the execution finds it:
-- the calls that the execution makes take the numbers from the table's next number on, and count as open.
pub record Program (L : Language) : Type 0 where
  -- how many bytes its first memory has by the measure
  pub first_memory : ℕ
  -- the method of a name: an update method, and a query method
  pub update : (name : List ℕ) → Option L.method
  pub query : (name : List ℕ) → Option L.method
  -- the body of a method with its caller and argument; none where the argument's bytes do not read at its types
  pub enter : L.method → (caller argument : List ℕ) → Option L.body
  -- the body that waits, given what its call was answered with
  pub resume : L.waiting → L.value → L.body
  pub run : (own : List ℕ) → CallTable L.results L.value → L.store → L.body → Execution (Effects L)
  -- what the bytes of a reply are; none where they do not read at the result types
  pub read : L.results → (bytes : List ℕ) → Option L.value
  -- the error that a reject throws
  pub error_of : (code : ℕ) → (text : List ℕ) → L.value
  -- the initialisers, over what an upgrade kept if this is one, and then the hook after an upgrade
  pub start : (own : List ℕ) → Option L.kept → Execution L.store
  -- the hook before an upgrade, and then the values of the stable variables
  pub save : (own : List ℕ) → L.store → Execution L.kept
  -- what messages cost that come in
  pub argument_cost : L.method → (argument : List ℕ) → ReadingCost
  pub reply_cost : L.results → (bytes : List ℕ) → ReadingCost
  pub reject_cost : (text : List ℕ) → ReadingCost

-- Each execution of the program stays as it is once it has ended.
pub record IsSettled {L : Language} (p : Program L) : Type 0 where
  pub run : (own : List ℕ) (table : CallTable L.results L.value) (store : L.store) (body : L.body) → Settles (p.run own table store body)
  pub start : (own : List ℕ) (kept : Option L.kept) → Settles (p.start own kept)
  pub save : (own : List ℕ) (store : L.store) → Settles (p.save own store)
