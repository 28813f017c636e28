-- Actors of the machine in whose values each function opens no more at once than it has nodes, and their executions (Motoko language manual, sections
-- "Actors", "Async" and "Await").
use Rattle.std.specs.Prelude.{◌≡◌, ℕ, ◌+◌, ◌≤◌, true, List, [], ◌∷◌, length, Option, Some, None}
use Rattle.mo_types.specs.declared.node.TypeId.{TypeId}
use Rattle.mo_types.specs.Calls.{State, Open, Answered, Lost, Call, call_at, is_open_state, set_state}
use Rattle.mo_values.specs.Costs.{weighing}
use Rattle.mo_values.specs.Shapes.{Bytes}
use Rattle.mo_actor.specs.CallAnswers.{Received, received_value, filled, broken, answering}
use Rattle.mo_actor.specs.Completions.{committed}
use Rattle.mo_actor.specs.IncomingCalls.{arrived, entered}
use Rattle.mo_actor.specs.Measures.{Unmeasured}
use Rattle.mo_actor.specs.Passes.{HeldCall, CommittedState, committed_state, fresh_state}
use Rattle.mo_actor.specs.Programs as actor
use Rattle.mo_actor.specs.Programs.{Effects}
use Rattle.mo_actor.specs.Results.{Completed, HasResult}
use Rattle.mo_actor.specs.States.{Actor, activation_at, waiting_on}
use Rattle.typed_tree.specs.declared.action.Action.TheVariants as action
use Rattle.typed_tree.specs.Language as language
use Rattle.typed_tree.specs.Programs.{Program}
use Rattle.mo_meaning.specs.Acts.{Given, Gets, Fails}
use Rattle.mo_meaning.specs.Actor.{surroundings}
use Rattle.mo_meaning.specs.Coding.{Types, Coding}
use Rattle.mo_meaning.specs.Kernel.{Entry, Kept}
use Rattle.mo_meaning.specs.Messages.{read_values}
use Rattle.mo_meaning.specs.Saving.{alone}
use Rattle.mo_machine.specs.ActorLanguage.{machine, Fields, Waiting}
use Rattle.mo_machine.specs.Acts.{Store}
use Rattle.mo_machine.specs.Bodies.{beginning, entering}
use Rattle.mo_machine.specs.Configurations.{Configuration, moved}
use Rattle.mo_machine.specs.Frames.{Ready, Give}
use Rattle.mo_machine.specs.Starting.{start_from, saving_from}
use Rattle.mo_machine.specs.States.{with_states}
use Rattle.mo_machine.specs.Turns.{steps}
use Rattle.mo_machine.specs.Values.{load}
use Rattle.machine_nesting.specs.Sizes.{SizedValue, Good, GoodEach}
use Rattle.machine_nesting.specs.Stacks.{labels_on, ends_on, Waits, IsLight}

-- ---- between events

pub record GoodFields (fields : Fields) : Type 0 where
  pub cells : GoodEach fields.cells
  pub exports : Good fields.exports

abbrev pub GoodGiven : Given → Type 0
GoodGiven (Gets v) = SizedValue v
GoodGiven (Fails error) = SizedValue error

abbrev pub GoodWaiting : Waiting → Type 0
GoodWaiting w = Waits 1 w.nodes w.focus w.stack

abbrev pub MaybeWaiting : Option Waiting → Type 0
MaybeWaiting None = Unit {0}
MaybeWaiting (Some w) = GoodWaiting w

abbrev pub GoodAnswer : State Given → Type 0
GoodAnswer Open = Unit {0}
GoodAnswer (Answered None) = Unit {0}
GoodAnswer (Answered (Some g)) = GoodGiven g
GoodAnswer Lost = Unit {0}

abbrev pub GoodCalls : List (HeldCall machine) → Type 0
GoodCalls [] = Unit {0}
GoodCalls (c ∷ calls) = GoodAnswer c.call.state × MaybeWaiting c.waiting × GoodCalls calls

-- what an actor has committed
pub record GoodState (s : CommittedState machine) : Type 0 where
  pub fields : GoodFields s.store
  pub calls : GoodCalls s.calls

-- ---- executions

-- how what waited goes on
abbrev pub continued : Given → Store → Waiting → Configuration
continued (Gets v) store w = moved (weighing 1) store (Give (load v)) w.stack (beginning w.nodes store w.focus w.stack)
continued (Fails e) store w = beginning w.nodes store (Ready action.Throw (load e ∷ [])) w.stack

module _ (coding : Coding) (types : Types) (p : Program) (first : ℕ) (own : Bytes) where
  abbrev pub running : actor.Program machine
  running = with_states coding first types p

  pub record LightActor : Type 0 where
    -- starts, also over what an upgrade kept, and the hook before an upgrade
    pub starts : (kept : Option Kept) → IsLight (λ j. steps (alone coding types own) j (start_from coding types p own kept))
    pub saves : (fields : Fields) → GoodFields fields → IsLight (λ j. steps (alone coding types own) j (saving_from p fields))
    pub enters : (a : Actor machine) → GoodState (committed_state a) → (entry : Entry) (caller argument : Bytes) (vs : List language.Value) → read_values coding types entry.parameters argument ≡ Some vs
        → IsLight (λ j. steps (surroundings coding types own a.table) j (entering a.store entry caller vs))
    pub resumes : (a : Actor machine) → GoodState (committed_state a) → (number : ℕ) (c : Call (List TypeId) Given) → call_at a.table number ≡ Some c → is_open_state c.state ≡ true
        → (received : Received) (value : Given) → received_value running own a c received ≡ Some value → (w : Waiting) → waiting_on number (activation_at a.activations c.owner) ≡ Some w
        → IsLight (λ j. steps (surroundings coding types own (set_state a.table number (Answered (Some value)))) j (continued value a.store.cells w)) × (ends_on w.stack ≤ w.nodes + labels_on w.stack)
    -- each event leaves the actor good
    pub begun : (kept : Option Kept) (prints : List Bytes) (weight : ℕ) (store : Fields) → HasResult Unmeasured first 0 (running.start own kept) (Completed prints weight store) → (made : ℕ) → GoodState (fresh_state store made)
    pub called : (a : Actor machine) → GoodState (committed_state a) → (entry : Entry) (caller argument : Bytes) (prints : List Bytes) (weight : ℕ) (effects : Effects machine)
        → HasResult Unmeasured first a.charged (entered running own a entry caller argument) (Completed prints weight effects) → GoodState (committed_state (committed (length a.activations) weight effects (arrived a)))
    pub answered : (a : Actor machine) → GoodState (committed_state a) → (number : ℕ) (c : Call (List TypeId) Given) → call_at a.table number ≡ Some c → is_open_state c.state ≡ true
        → (received : Received) (prints : List Bytes) (weight : ℕ) (effects : Effects machine) → HasResult Unmeasured first a.charged (answering running own a number c received) (Completed prints weight effects)
        → GoodState (committed_state (committed c.owner weight effects (filled number (received_value running own a c received) a)))
    pub trapped : (a : Actor machine) → GoodState (committed_state a) → (number owner : ℕ) → GoodState (committed_state (broken number owner a))
