-- What events do to the actor of a well-typed program, as the machine runs it: its executions are as elaboration asks, and what they leave is typed (Motoko
-- language manual, sections "Actors", "Await" and "Type soundness").
use Rattle.std.specs.Prelude.{◌≡◌, ◌≤◌, ℕ, Bool, true, false, List, [], ◌∷◌, length, Option, Some}
use Rattle.mo_types.specs.declared.node.TypeId.{TypeId}
use Rattle.mo_types.specs.Calls.{Answered, Call, call_at, is_open_state, set_state}
use Rattle.mo_values.specs.Shapes.{Bytes, Future}
use Rattle.mo_actor.specs.CallAnswers.{Received, received_value, filled, broken, answering}
use Rattle.mo_actor.specs.Completions.{committed}
use Rattle.mo_actor.specs.IncomingCalls.{arrived, entered}
use Rattle.mo_actor.specs.Measures.{Unmeasured}
use Rattle.mo_actor.specs.Passes.{CommittedState, committed_state, fresh_state, answer_event}
use Rattle.mo_actor.specs.Programs as actor
use Rattle.mo_actor.specs.Programs.{Effects}
use Rattle.mo_actor.specs.Results.{Completed, HasResult}
use Rattle.mo_actor.specs.States.{Actor, activation_at, waiting_on}
use Rattle.play_script.specs.declared.event.Event.TheVariants as event
use Rattle.core_ir.specs.Values as core
use Rattle.typed_tree.specs.declared.action.Action.TheVariants as action
use Rattle.typed_tree.specs.declared.program.Program.{Program as TypedProgram}
use Rattle.typed_tree.specs.Language as language
use Rattle.typed_tree.specs.Language.{Functions}
use Rattle.typed_tree.specs.Programs.{Program}
use Rattle.typed_tree.specs.ProgramView.{program}
use Rattle.typed_tree.specs.WellTyped.{WellTyped}
use Rattle.mo_meaning.specs.Acts.{Given}
use Rattle.mo_meaning.specs.Actor.{method_from, surroundings}
use Rattle.mo_meaning.specs.Bodies.{context}
use Rattle.mo_meaning.specs.Coding.{Types, Coding, IsFaithful}
use Rattle.mo_meaning.specs.Kernel.{Entry, Kept}
use Rattle.mo_meaning.specs.Messages.{read_values}
use Rattle.mo_machine.specs.ActorLanguage.{machine, Fields, Waiting}
use Rattle.mo_machine.specs.Bodies.{entering}
use Rattle.mo_machine.specs.Environments.{Environment}
use Rattle.mo_machine.specs.Exports.{function_at}
use Rattle.mo_machine.specs.Frames.{Ready}
use Rattle.mo_machine.specs.States.{with_states}
use Rattle.mo_machine.specs.Turns.{steps}
use Rattle.mo_machine.specs.Values.{Made, Closure, NoValue, load, load_list}
use Rattle.program_soundness.specs.Actors.{IsProper}
use Rattle.elaboration.specs.Elaboration.{number_of_parameters}
use Rattle.elaboration.specs.Meeting.{MeetEach}
use Rattle.elaboration_values.specs.Belonging.{Known, EachBelongs}
use Rattle.elaboration_runs.specs.Entering.{Function, function_in}
use Rattle.elaboration_actors.specs.Bodies.{continued}
use Rattle.elaboration_premises.specs.Serving.{Served}
use Rattle.elaboration_sound.specs.Typed.{CommittedTyped}

module _ (coding : Coding) (types : Types) (p : Program) (first : ℕ) (own : Bytes) where
  abbrev pub typed : actor.Program machine
  typed = with_states coding first types p

  -- the call is open
  abbrev pub Waits : Actor machine → ℕ → Call (List TypeId) Given → Type 0
  Waits a number c = (call_at a.table number ≡ Some c) × (is_open_state c.state ≡ true)

  -- all that is asked of the typed actor but how much stands open
  pub record ServedActor (Safe : CommittedState machine → Type 0) : Type 0 where
    pub enters : (a : Actor machine) → Safe (committed_state a) → (query called : Bool) (name caller argument : Bytes) (entry : Entry) → method_from 0 query name p.methods ≡ Some entry → IsProper (event.Call called name caller argument)
        → (vs : List language.Value) → read_values coding types entry.parameters argument ≡ Some vs
        → Served (λ j. steps (surroundings coding types own a.table) j (entering a.store entry caller vs))
        × ((group : Functions) (which : ℕ) (env : Environment) (f : Function) → function_at a.store.exports entry.place ≡ Closure group which env → function_in group which ≡ Some f
        → (known : List Known) (ws : List core.Value) → EachBelongs known (load (context caller) ∷ load_list vs) ws → (length ws ≡ number_of_parameters f.parameters) × MeetEach f.parameters ws)
    pub resumes : (a : Actor machine) → Safe (committed_state a) → (number : ℕ) (c : Call (List TypeId) Given) → Waits a number c → (received : Received) → IsProper (answer_event number received)
        → (value : Given) → received_value typed own a c received ≡ Some value → (w : Waiting) → waiting_on number (activation_at a.activations c.owner) ≡ Some w → (future : ℕ) → w.focus ≡ Ready action.Await (Made (Future future) NoValue ∷ [])
        → Served (λ j. steps (surroundings coding types own (set_state a.table number (Answered (Some value)))) j (continued value a.store.cells w))
    pub begun : (kept : Option Kept) (prints : List Bytes) (weight : ℕ) (store : Fields) → HasResult Unmeasured first 0 (typed.start own kept) (Completed prints weight store) → (made : ℕ) → Safe (fresh_state store made)
    pub called : (a : Actor machine) → Safe (committed_state a) → (name caller argument : Bytes) (entry : Entry) → method_from 0 false name p.methods ≡ Some entry → IsProper (event.Call false name caller argument)
        → (prints : List Bytes) (weight : ℕ) (effects : Effects machine) → HasResult Unmeasured first a.charged (entered typed own a entry caller argument) (Completed prints weight effects)
        → Safe (committed_state (committed (length a.activations) weight effects (arrived a)))
    pub answered : (a : Actor machine) → Safe (committed_state a) → (number : ℕ) (c : Call (List TypeId) Given) → Waits a number c → (received : Received) → IsProper (answer_event number received)
        → (prints : List Bytes) (weight : ℕ) (effects : Effects machine) → HasResult Unmeasured first a.charged (answering typed own a number c received) (Completed prints weight effects)
        → Safe (committed_state (committed c.owner weight effects (filled number (received_value typed own a c received) a)))
    pub trapped : (a : Actor machine) → Safe (committed_state a) → (number : ℕ) (c : Call (List TypeId) Given) → Waits a number c → Safe (committed_state (broken number c.owner a))

abbrev pub ActorsServe : Type 0
ActorsServe =
    (coding : Coding) → IsFaithful coding → (p : TypedProgram) → WellTyped p → (first : ℕ) (own : Bytes) → length own ≤ 29
    → ServedActor coding p.types (program p) first own (CommittedTyped p.types (program p))
