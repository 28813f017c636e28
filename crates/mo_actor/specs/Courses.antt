-- The course of an event: the executions that it brings about, and what comes of each of their results.
use Rattle.std.specs.Prelude.{◌≡◌, ℕ}
use Rattle.mo_actor.specs.Executions.{Execution}
use Rattle.mo_actor.specs.Measures.{Measure}
use Rattle.mo_actor.specs.Results.{Result, HasResult}
use Rattle.mo_actor.specs.Outcomes.{Outcome, outcome}

pub data Course (S : Type 0) : Type 1 where
  -- no execution is left
  Over : (reached : Outcome S) → Course S
  -- an execution, with the first memory of its program and the weight charged before, and the course behind its result
  Runs : (A : Type 0) → (first_memory charged : ℕ) → (execution : Execution A) → (behind : Result A → Course S) → Course S
  -- nothing is said of such an event
  NoCourse : Course S

-- The same course with the states behind it seen as others.
abbrev pub over_states : {S T : Type 0} → (S → T) → Course S → Course T
over_states f (Over o) = Over (outcome o.items (f o.next))
over_states f (Runs A first_memory charged x behind) = Runs A first_memory charged x (λ r. over_states f (behind r))
over_states f NoCourse = NoCourse

-- The course comes to this outcome, and each exhaustion on the way is deserved.
abbrev pub ComesTo : {S : Type 0} → Measure → Course S → Outcome S → Type 0
ComesTo pays (Over o) reached = reached ≡ o
ComesTo pays (Runs A first_memory charged x behind) reached = (r : Result A) × HasResult pays first_memory charged x r × ComesTo pays (behind r) reached
ComesTo pays NoCourse reached = ⊥
