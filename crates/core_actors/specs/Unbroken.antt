-- An invariant of a program's actor under which none of its executions breaks.
use Rattle.std.specs.Prelude.{◌≡◌, ℕ, Bool, true, false, List, [], length, map, replicate, Option, Some}
use Rattle.play_script.specs.declared.event.Event.{Event}
use Rattle.play_script.specs.declared.event.Event.TheVariants as event
use Rattle.mo_types.specs.declared.node.TypeId.{TypeId}
use Rattle.mo_types.specs.Calls.{Call, Answered, is_open_state, call_at, set_state}
use Rattle.mo_values.specs.Shapes.{Bytes}
use Rattle.mo_actor.specs.Programs as actor
use Rattle.mo_actor.specs.Programs.{Effects}
use Rattle.mo_actor.specs.Measures.{Unmeasured}
use Rattle.mo_actor.specs.Results.{Completed, HasResult}
use Rattle.mo_actor.specs.States.{Actor, activation_at, waiting_on}
use Rattle.mo_actor.specs.Completions.{committed}
use Rattle.mo_actor.specs.IncomingCalls.{arrived, entered}
use Rattle.mo_actor.specs.CallAnswers.{Received, received_value, filled, broken, answering}
use Rattle.mo_actor.specs.Upgrades.{saving}
use Rattle.mo_actor.specs.Passes.{CommittedState, committed_state, fresh_state, answer_event}
use Rattle.core_ir.specs.Values.{Value, null}
use Rattle.core_ir.specs.Programs.{Program}
use Rattle.core_ir.specs.Worlds.{Given}
use Rattle.core_ir.specs.Executions.{Begins, Resumes, Saves, Starts, Machine}
use Rattle.core_ir.specs.Formed.{IsSafe}
use Rattle.core_ir.specs.Messages.{Messages}
use Rattle.core_ir.specs.Actor.{Fields, Pending, MethodEntry, core_language, method_from, context_of, world_of, alone, kept_value, actor_program}
use Rattle.core_laws.specs.Followed.{empty}

-- Safe tells states in which the actor may be, and Fits what an upgrade may hand on; only events that are Allowed come.
module _ {S V K B : Type 0} (m : Machine S V) (messages : Messages K) (p : Program B) (first : ℕ) (own : Bytes) (Allowed : Event → Type 0) (Safe : CommittedState (core_language V K) → Type 0) (Fits : K → Type 0) where
  abbrev pub program : actor.Program (core_language V K)
  program = actor_program m messages p first

  abbrev pub Runs : Actor (core_language V K) → Type 0
  Runs a = Safe (committed_state a)

  -- the call is open
  abbrev pub Awaited : Actor (core_language V K) → ℕ → Call (List TypeId) Given → Type 0
  Awaited a number c = (call_at a.table number ≡ Some c) × (is_open_state c.state ≡ true)

  pub record Unbroken : Type 0 where
    -- no execution breaks
    pub installs : IsSafe m (alone m messages p own []) empty (Starts (replicate (length p.stable) null) false)
    pub starts : (kept : K) → Fits kept → (values : List (Option Value)) → messages.restore kept ≡ Some values → IsSafe m (alone m messages p own []) empty (Starts (map (kept_value m messages p) values) true)
    pub enters : (a : Actor (core_language V K)) → Runs a → (query called : Bool) (name caller argument : Bytes) (entry : MethodEntry) → method_from 0 query name p.methods ≡ Some entry
        → Allowed (event.Call called name caller argument) → (vs : List Value) → messages.read entry.parameters argument ≡ Some vs
        → IsSafe m (context_of m messages p own a.table a.store.names) (world_of m messages p a.store) (Begins entry.place caller vs)
    pub resumes : (a : Actor (core_language V K)) → Runs a → (number : ℕ) (c : Call (List TypeId) Given) → Awaited a number c → (received : Received) → Allowed (answer_event number received)
        → (value : Given) → received_value program own a c received ≡ Some value → (w : Pending V) → waiting_on number (activation_at a.activations c.owner) ≡ Some w
        → IsSafe m (context_of m messages p own (set_state a.table number (Answered (Some value))) a.store.names) (world_of m messages p a.store) (Resumes w.waiting value)
    pub saves : (a : Actor (core_language V K)) → Runs a → IsSafe m (alone m messages p own a.store.names) (world_of m messages p a.store) Saves
    -- and what they leave is such a state
    pub begun : (kept : Option K) (prints : List Bytes) (weight : ℕ) (store : Fields) → HasResult Unmeasured first 0 (program.start own kept) (Completed prints weight store) → (made : ℕ) → Safe (fresh_state store made)
    pub called : (a : Actor (core_language V K)) → Runs a → (name caller argument : Bytes) (entry : MethodEntry) → method_from 0 false name p.methods ≡ Some entry → Allowed (event.Call false name caller argument)
        → (prints : List Bytes) (weight : ℕ) (effects : Effects (core_language V K)) → HasResult Unmeasured first a.charged (entered program own a entry caller argument) (Completed prints weight effects)
        → Runs (committed (length a.activations) weight effects (arrived a))
    pub answered : (a : Actor (core_language V K)) → Runs a → (number : ℕ) (c : Call (List TypeId) Given) → Awaited a number c → (received : Received) → Allowed (answer_event number received)
        → (prints : List Bytes) (weight : ℕ) (effects : Effects (core_language V K)) → HasResult Unmeasured first a.charged (answering program own a number c received) (Completed prints weight effects)
        → Runs (committed c.owner weight effects (filled number (received_value program own a c received) a))
    pub trapped : (a : Actor (core_language V K)) → Runs a → (number : ℕ) (c : Call (List TypeId) Given) → Awaited a number c → Runs (broken number c.owner a)
    pub saved : (a : Actor (core_language V K)) → Runs a → (prints : List Bytes) (weight : ℕ) (kept : K) → HasResult Unmeasured first a.charged (saving program own a) (Completed prints weight kept) → Fits kept
