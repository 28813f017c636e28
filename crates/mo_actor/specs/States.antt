-- The state of an actor between events: Motoko language manual, section "Actors"; IC interface specification, section
-- Abstract behavior.
use Rattle.std.specs.Prelude.{ℕ, List, Option, Some, None, Bool, true, false, not, ◌&&◌, cond, nat_eq, slice_get, slice_set}
use Rattle.std.specs.List.{list_any}
use Rattle.mo_types.specs.Calls.{CallTable, is_open_state}
use Rattle.mo_actor.specs.Languages.{Language}
use Rattle.mo_actor.specs.Programs.{Program}

-- The activation of an incoming call.
pub data Activation (L : Language) : Type 0 where
  IsAnswered : Activation L
  -- it waited on an answer whose execution trapped
  IsDead : Activation L
  WaitsFor : (number : ℕ) → (waiting : L.waiting) → Activation L
  -- it waits on a future whose answer was lost
  WaitsForNothing : Activation L

-- An actor that is there.
pub record Actor (L : Language) : Type 0 where
  -- as it was last committed
  pub store : L.store
  -- its outgoing calls
  pub table : CallTable L.results L.value
  -- its incoming calls: the number of a call is the place of its activation
  pub activations : List (Activation L)
  -- the weight of the execution that began its program, and of each one since then that was taken over
  pub charged : ℕ

-- No actor, with the number of the next outgoing call and the incoming calls so far; or an actor with its program.
pub data ActorState (L : Language) : Type 0 where
  NoActor : (made : ℕ) → (activations : List (Activation L)) → ActorState L
  Running : (program : Program L) → (actor : Actor L) → ActorState L

-- Whether this incoming call has an open outgoing call.
abbrev pub owns_open : {T V : Type 0} → CallTable T V → (owner : ℕ) → Bool
owns_open table owner = list_any (λ c. is_open_state c.state && nat_eq c.owner owner) table.calls

module _ {L : Language} where
  -- an incoming call that never came counts as answered
  abbrev pub or_answered : Option (Activation L) → Activation L
  or_answered None = IsAnswered
  or_answered (Some activation) = activation

  -- The activation of the incoming call of this number.
  abbrev pub activation_at : List (Activation L) → (owner : ℕ) → Activation L
  activation_at activations owner = or_answered (slice_get activations owner)

  abbrev pub is_answered : Activation L → Bool
  is_answered IsAnswered = true
  is_answered IsDead = false
  is_answered (WaitsFor number waiting) = false
  is_answered WaitsForNothing = false

  -- The expression that waits on this call.
  abbrev pub waiting_on : (number : ℕ) → Activation L → Option L.waiting
  waiting_on number IsAnswered = None
  waiting_on number IsDead = None
  waiting_on number (WaitsFor other waiting) = cond (nat_eq other number) (Some waiting) None
  waiting_on number WaitsForNothing = None

  -- The actor with this activation in another state.
  abbrev pub with_activation : (owner : ℕ) → Activation L → Actor L → Actor L
  with_activation owner activation a = record a { activations = slice_set a.activations owner activation }

  -- The incoming call is unanswered, and no open call is left that could bring its answer.
  abbrev pub is_starved : (owner : ℕ) → Actor L → Bool
  is_starved owner a = not (is_answered (activation_at a.activations owner)) && not (owns_open a.table owner)
