-- Answers to outgoing calls: IC interface specification, section Callback invocation; Motoko language manual, section "Await".
use Rattle.std.specs.Prelude.{ℕ, List, [], ◌∷◌, Option, Some, None, Bool, true, false, codes}
use Rattle.play_script.specs.declared.item.Item.TheVariants as item
use Rattle.play_script.specs.declared.item.Word.TheVariants as word
use Rattle.mo_types.specs.Calls.{State, Open, Answered, Lost, Call, CallTable, is_open_state, call_at, state_of, set_state}
use Rattle.mo_actor.specs.Languages.{Language}
use Rattle.mo_actor.specs.Executions.{Completes, Execution, ReadingCost, trapping, at_once, after_reading}
use Rattle.mo_actor.specs.Programs.{Unchanged, Effects, Program}
use Rattle.mo_actor.specs.Results.{Result, Completed, Trapped, Exhausted}
use Rattle.mo_actor.specs.States.{IsDead, Actor, activation_at, waiting_on, with_activation}
use Rattle.mo_actor.specs.Outcomes.{Outcome, outcome, trap_items, close}
use Rattle.mo_actor.specs.Courses.{Course, Over, Runs}
use Rattle.mo_actor.specs.Completions.{complete}

-- What comes in for an outgoing call.
pub data Received : Type 0 where
  Reply : (bytes : List ℕ) → Received
  Reject : (code : ℕ) → (text : List ℕ) → Received

abbrev pub value_in_state : {V : Type 0} → Option (State V) → Option V
value_in_state None = None
value_in_state (Some Open) = None
value_in_state (Some (Answered value)) = value
value_in_state (Some Lost) = None

-- What a future was filled with.
abbrev pub future_value : {T V : Type 0} → CallTable T V → (number : ℕ) → Option V
future_value table number = value_in_state (state_of (call_at table number))

module _ {L : Language} where
  -- A trap on the answer leaves the call answered. If the call's owner waited on it, the owner is dead; else the future is lost.
  abbrev pub broken_by : (number owner : ℕ) → Actor L → Option L.waiting → Actor L
  broken_by number owner a None = record a { table = set_state a.table number Lost }
  broken_by number owner a (Some waiting) = with_activation owner IsDead (record a { table = set_state a.table number (Answered None) })

  abbrev pub broken : (number owner : ℕ) → Actor L → Actor L
  broken number owner a = broken_by number owner a (waiting_on number (activation_at a.activations owner))

  -- The future of the call is filled.
  abbrev pub filled : (number : ℕ) → Option L.value → Actor L → Actor L
  filled number value a = record a { table = set_state a.table number (Answered value) }

  abbrev pub answer_outcome : (number owner : ℕ) → Option L.value → Actor L → Result (Effects L) → Outcome (Actor L)
  answer_outcome number owner value a (Completed prints weight effects) = complete owner prints weight effects (filled number value a)
  answer_outcome number owner value a (Trapped prints text) = close owner (trap_items prints (word.Text text)) (broken number owner a)
  answer_outcome number owner value a (Exhausted prints cause) = close owner (trap_items prints cause) (broken number owner a)

  -- Nothing is done, and the activation stays as it was.
  abbrev pub no_effects : Actor L → Effects L
  no_effects a = record { store = a.store; calls = []; ending = Unchanged }

  module _ (p : Program L) (own : List ℕ) (a : Actor L) where
    -- A reply to `__resume` gives the answer of the future that it resumes; its bytes are not read.
    abbrev pub reply_value : Call L.results L.value → Option ℕ → (bytes : List ℕ) → Option L.value
    reply_value call None bytes = p.read call.results bytes
    reply_value call (Some future) bytes = future_value a.table future

    abbrev pub received_value : Call L.results L.value → Received → Option L.value
    received_value call (Reply bytes) = reply_value call call.resumes bytes
    received_value call (Reject code text) = Some (p.error_of code text)

    abbrev pub reply_reading : Call L.results L.value → Option ℕ → (bytes : List ℕ) → ReadingCost
    reply_reading call None bytes = p.reply_cost call.results bytes
    reply_reading call (Some future) bytes = record { weight = 0; depth = 0 }

    abbrev pub received_reading : Call L.results L.value → Received → ReadingCost
    received_reading call (Reply bytes) = reply_reading call call.resumes bytes
    received_reading call (Reject code text) = p.reject_cost text

    -- A reply that does not read traps. Else the expression that waits goes on; where none waits, the future alone is filled.
    abbrev pub resumed : (number : ℕ) → Option L.value → Option L.waiting → Execution (Effects L)
    resumed number None waiting = trapping (codes "bad reply")
    resumed number (Some value) None = at_once (Completes (no_effects a))
    resumed number (Some value) (Some waiting) = p.run own (set_state a.table number (Answered (Some value))) a.store (p.resume waiting value)

    abbrev pub answering : (number : ℕ) → Call L.results L.value → Received → Execution (Effects L)
    answering number call received =
        after_reading (received_reading call received) (resumed number (received_value call received) (waiting_on number (activation_at a.activations call.owner)))

    -- An answer to a call that is not open means nothing.
    abbrev pub open_course : (is_open : Bool) → (number : ℕ) → Call L.results L.value → Received → Course (Actor L)
    open_course false number call received = Over (outcome (item.Ignored ∷ []) a)
    open_course true number call received =
        Runs (Effects L) p.first_memory a.charged (answering number call received) (λ r. Over (answer_outcome number call.owner (received_value call received) a r))

    abbrev pub answer_course : (number : ℕ) → Received → Option (Call L.results L.value) → Course (Actor L)
    answer_course number received None = Over (outcome (item.Ignored ∷ []) a)
    answer_course number received (Some call) = open_course (is_open_state call.state) number call received
