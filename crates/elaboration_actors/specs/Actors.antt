-- How states of the actor of an elaborated program belong to those of the actor of the typed program, and what is asked of that (Motoko language manual,
-- sections "Actors", "Async" and "Stable variables").
use Rattle.std.specs.Prelude.{⊤, ◌≡◌, ℕ, ◌+◌, ◌*◌, ◌≤◌, Bool, true, false, List, [], ◌∷◌, ◌++◌, length, Option, Some, None}
use Rattle.play_script.specs.declared.event.Event.{Event}
use Rattle.play_script.specs.declared.event.Event.TheVariants as event
use Rattle.mo_types.specs.declared.node.TypeId.{TypeId}
use Rattle.mo_types.specs.Calls.{State, Open, Answered, Lost, Call, is_open_state, call_at, set_state, no_calls}
use Rattle.mo_values.specs.Shapes.{Bytes, Future}
use Rattle.mo_actor.specs.CallAnswers.{Received, received_value, filled, broken, answering}
use Rattle.mo_actor.specs.Completions.{committed}
use Rattle.mo_actor.specs.IncomingCalls.{arrived, entered}
use Rattle.mo_actor.specs.Measures.{Measure, Unmeasured}
use Rattle.mo_actor.specs.Passes.{HeldCall, CommittedState, committed_state, fresh_state, AlikeMethods, Keeps, answer_event}
use Rattle.mo_actor.specs.Programs as actor
use Rattle.mo_actor.specs.Programs.{Effects}
use Rattle.mo_actor.specs.Results.{Completed, HasResult}
use Rattle.mo_actor.specs.States.{Actor, activation_at, waiting_on}
use Rattle.mo_actor.specs.Upgrades.{saving}
use Rattle.core_ir.specs.Actor.{Pending, core_language, context_of, actor_program}
use Rattle.core_ir.specs.Actor as core_actor
use Rattle.core_ir.specs.CoreMachine as core_machine
use Rattle.core_ir.specs.Expressions.{Core}
use Rattle.core_ir.specs.Messages.{Messages}
use Rattle.core_ir.specs.Values as core_value
use Rattle.core_ir.specs.Worlds as worlds
use Rattle.core_ir.specs.Worlds.{Context}
use Rattle.typed_tree.specs.declared.action.Action.TheVariants as action
use Rattle.typed_tree.specs.Language as language
use Rattle.typed_tree.specs.Language.{Functions}
use Rattle.typed_tree.specs.Programs.{Program}
use Rattle.mo_meaning.specs.Acts.{Given}
use Rattle.mo_meaning.specs.Actor.{method_from, surroundings}
use Rattle.mo_meaning.specs.Bodies.{context}
use Rattle.mo_meaning.specs.Coding.{Types, Coding}
use Rattle.mo_meaning.specs.Kernel.{Entry, Kept}
use Rattle.mo_meaning.specs.Messages.{read_values, reading_cost}
use Rattle.mo_meaning.specs.Starting.{all_taken, all_kept, values_of_taken, kept_cost}
use Rattle.mo_machine.specs.ActorLanguage.{machine, Fields, Waiting}
use Rattle.mo_machine.specs.Bodies.{entering}
use Rattle.mo_machine.specs.Environments.{Environment}
use Rattle.mo_machine.specs.Exports.{function_at}
use Rattle.mo_machine.specs.Frames.{Ready}
use Rattle.mo_machine.specs.Messages.{message_of}
use Rattle.mo_machine.specs.States.{with_states}
use Rattle.mo_machine.specs.Values.{Value, Made, Closure, NoValue, load, load_list}
use Rattle.elaboration.specs.Elaboration.{number_of_parameters}
use Rattle.elaboration.specs.Meeting.{MeetEach}
use Rattle.elaboration.specs.Playing.{as_reading, messages_of}
use Rattle.elaboration_values.specs.Belonging.{Known, EachBelongs}
use Rattle.elaboration_steps.specs.Follows.{owed}
use Rattle.elaboration_runs.specs.Entering.{Function, function_in}
use Rattle.elaboration_runs.specs.Resuming.{endings}
use Rattle.elaboration_actors.specs.Bodies.{Sound, Follows, GivenBelongs, WaitingBelongs, FieldsBelong, SameMethod, continued}
use Rattle.elaboration_actors.specs.Saving.{SavingBelongs}

-- ---- messages of both are the same

abbrev pub ReadBelongs : Option (List language.Value) → Option (List core_value.Value) → Type 0
ReadBelongs None None = Unit {0}
ReadBelongs (Some vs) (Some ws) = (known : List Known) → EachBelongs known (load_list vs) ws
ReadBelongs _ _ = ⊥

pub record SameMessages (coding : Coding) (types : Types) (p : Program) (messages : Messages Kept) : Type 0 where
  pub spell : (known : List Known) (ts : List TypeId) (vs : List Value) (ws : List core_value.Value) → EachBelongs known vs ws → messages.spell ts ws ≡ message_of coding types ts vs
  pub read : (ts : List TypeId) (bytes : Bytes) → ReadBelongs (read_values coding types ts bytes) (messages.read ts bytes)
  pub costs : (ts : List TypeId) (bytes : Bytes) → messages.reading_cost ts bytes ≡ reading_cost coding types ts bytes
  -- what was kept is no value of the new types, and what it costs to look at it
  pub refuses : (kept : Kept) → all_kept (all_taken coding kept.types types kept.variables p.stable) ≡ None → messages.restore kept ≡ None
  pub restoring : (kept : Kept) → messages.restoring_cost kept ≡ as_reading coding types p (kept_cost coding types p kept (values_of_taken (all_taken coding kept.types types kept.variables p.stable)))

-- messages as an actor is told of them
abbrev pub MessagesAreTold : Type 0
MessagesAreTold = (coding : Coding) (types : Types) (p : Program) → SameMessages coding types p (messages_of coding types p)

-- ---- states

module _ (core : Core) (own : Bytes) (names : List core_value.Value) where
  -- the names of the actor
  abbrev pub globals : List core_value.Value
  globals = core_actor.outer_names own core.methods ++ names

  abbrev pub StatesBelong : List Known → State Given → State worlds.Given → Type 0
  StatesBelong known Open Open = Unit {0}
  StatesBelong known (Answered None) (Answered None) = Unit {0}
  StatesBelong known (Answered (Some g)) (Answered (Some h)) = GivenBelongs known g h
  StatesBelong known Lost Lost = Unit {0}
  StatesBelong known _ _ = ⊥

  pub record CallsBelongTogether (known : List Known) (c : Call (List TypeId) Given) (d : Call (List TypeId) worlds.Given) : Type 0 where
    pub owner : d.owner ≡ c.owner
    pub results : d.results ≡ c.results
    pub resumes : d.resumes ≡ c.resumes
    pub state : StatesBelong known c.state d.state

  abbrev pub WaitsBelong : List Known → Option Waiting → Option (Pending core_machine.Waiting) → Type 0
  WaitsBelong known None None = ⊤
  WaitsBelong known (Some w) (Some p) = WaitingBelongs core names globals known w p
  WaitsBelong known _ _ = ⊥

  abbrev pub HeldBelong : List Known → List (HeldCall machine) → List (HeldCall (core_language core_machine.Waiting Kept)) → Type 0
  HeldBelong known [] [] = ⊤
  HeldBelong known (c ∷ cs) (d ∷ ds) = (CallsBelongTogether known c.call d.call × WaitsBelong known c.waiting d.waiting) × HeldBelong known cs ds
  HeldBelong known _ _ = ⊥

module _ (coding : Coding) (types : Types) (p : Program) (core : Core) (messages : Messages Kept) (own : Bytes) where
  abbrev pub context_with : List core_value.Value → Context
  context_with names = context_of (core_machine.core_machine core) messages core own (no_calls 0) names

  -- the methods of both by name
  abbrev pub MethodsBelong : List Known → Value → List core_value.Value → Type 0
  MethodsBelong known exports names =
      (query : Bool) (name : Bytes) → AlikeMethods (λ e m. SameMethod core (context_with names) known exports e m) (method_from 0 query name p.methods) (core_actor.method_from 0 query name core.methods)

  -- fields at the beginning
  pub record Begun (f : Fields) (g : core_actor.Fields) : Type 0 where
    pub known : List Known
    pub fields : FieldsBelong core g.names (globals core own g.names) known f g
    pub methods : MethodsBelong known f.exports g.names
    pub saving : SavingBelongs p core known (globals core own g.names) f.exports

  pub record Related (Safe : CommittedState machine → Type 0) (s : CommittedState machine) (t : CommittedState (core_language core_machine.Waiting Kept)) : Type 0 where
    pub safe : Safe s
    pub known : List Known
    pub fields : FieldsBelong core t.store.names (globals core own t.store.names) known s.store t.store
    pub methods : MethodsBelong known s.store.exports t.store.names
    pub saving : SavingBelongs p core known (globals core own t.store.names) s.store.exports
    pub calls : HeldBelong core own t.store.names known s.calls t.calls

  abbrev pub SameKept : (Kept → Type 0) → Kept → Kept → Type 0
  SameKept Fits k l = (l ≡ k) × Fits k

abbrev pub Weighs : ℕ → ℕ → ℕ → Type 0
Weighs times x y = y ≤ times * x

-- ---- premises

-- Safe tells states in which the typed actor may be, and Fits what an upgrade may hand on; only events that are Allowed come.
module _ (times : ℕ) (coding : Coding) (types : Types) (p : Program) (first : ℕ) (own : Bytes) (Allowed : Event → Type 0) (Safe : CommittedState machine → Type 0) (Fits : Kept → Type 0) where
  abbrev pub typed : actor.Program machine
  typed = with_states coding first types p

  -- the call is open
  abbrev pub Awaited : Actor machine → ℕ → Call (List TypeId) Given → Type 0
  Awaited a number c = (call_at a.table number ≡ Some c) × (is_open_state c.state ≡ true)

  -- typing gives these: executions are sound, and what they leave is safe
  pub record SoundActor : Type 0 where
    pub enters : (a : Actor machine) → Safe (committed_state a) → (query called : Bool) (name caller argument : Bytes) (entry : Entry) → method_from 0 query name p.methods ≡ Some entry → Allowed (event.Call called name caller argument)
        → (vs : List language.Value) → read_values coding types entry.parameters argument ≡ Some vs
        → Sound times (surroundings coding types own a.table) (entering a.store entry caller vs)
        × ((group : Functions) (which : ℕ) (env : Environment) (f : Function) → function_at a.store.exports entry.place ≡ Closure group which env → function_in group which ≡ Some f
        → (known : List Known) (ws : List core_value.Value) → EachBelongs known (load (context caller) ∷ load_list vs) ws → (length ws ≡ number_of_parameters f.parameters) × MeetEach f.parameters ws)
    pub resumes : (a : Actor machine) → Safe (committed_state a) → (number : ℕ) (c : Call (List TypeId) Given) → Awaited a number c → (received : Received) → Allowed (answer_event number received)
        → (value : Given) → received_value typed own a c received ≡ Some value → (w : Waiting) → waiting_on number (activation_at a.activations c.owner) ≡ Some w
        → (future : ℕ) → w.focus ≡ Ready action.Await (Made (Future future) NoValue ∷ [])
        → Sound times (surroundings coding types own (set_state a.table number (Answered (Some value)))) (continued value a.store.cells w) × (endings w.stack ≤ w.nodes + owed w.stack)
    pub begun : (kept : Option Kept) (prints : List Bytes) (weight : ℕ) (store : Fields) → HasResult Unmeasured first 0 (typed.start own kept) (Completed prints weight store) → (made : ℕ) → Safe (fresh_state store made)
    pub called : (a : Actor machine) → Safe (committed_state a) → (name caller argument : Bytes) (entry : Entry) → method_from 0 false name p.methods ≡ Some entry → Allowed (event.Call false name caller argument)
        → (prints : List Bytes) (weight : ℕ) (effects : Effects machine) → HasResult Unmeasured first a.charged (entered typed own a entry caller argument) (Completed prints weight effects)
        → Safe (committed_state (committed (length a.activations) weight effects (arrived a)))
    pub answered : (a : Actor machine) → Safe (committed_state a) → (number : ℕ) (c : Call (List TypeId) Given) → Awaited a number c → (received : Received) → Allowed (answer_event number received)
        → (prints : List Bytes) (weight : ℕ) (effects : Effects machine) → HasResult Unmeasured first a.charged (answering typed own a number c received) (Completed prints weight effects)
        → Safe (committed_state (committed c.owner weight effects (filled number (received_value typed own a c received) a)))
    pub trapped : (a : Actor machine) → Safe (committed_state a) → (number : ℕ) (c : Call (List TypeId) Given) → Awaited a number c → Safe (committed_state (broken number c.owner a))
    pub saved : (number : ℕ) → Allowed (event.Upgrade number) → (a : Actor machine) → Safe (committed_state a) → (prints : List Bytes) (weight : ℕ) (kept : Kept) → HasResult Unmeasured first a.charged (saving typed own a) (Completed prints weight kept) → Fits kept

  module _ (core : Core) (messages : Messages Kept) (memory : ℕ) where
    abbrev pub made : actor.Program (core_language core_machine.Waiting Kept)
    made = actor_program (core_machine.core_machine core) messages core memory

    -- starts and saves are followed: upgrades from values of the new types, where upgrades come
    pub record StartsAndSaves : Type 0 where
      pub installs : Follows times (Begun coding types p core messages own) (typed.start own None) (made.start own None)
      pub starts : (kept : Kept) → Fits kept → (vs : List (Option language.Value)) → all_kept (all_taken coding kept.types types kept.variables p.stable) ≡ Some vs → Follows times (Begun coding types p core messages own) (typed.start own (Some kept)) (made.start own (Some kept))
      pub saves : (number : ℕ) → Allowed (event.Upgrade number) → (a : Actor machine) → Safe (committed_state a) → (known : List Known) (g : core_actor.Fields) → FieldsBelong core g.names (globals core own g.names) known a.store g → SavingBelongs p core known (globals core own g.names) a.store.exports
          → Follows times (λ (k : Kept) (l : Kept). l ≡ k) (typed.save own a.store) (made.save own g)

    -- each execution of the elaborated actor is one of the typed actor
    abbrev pub ActorsKeep : Measure → Measure → Type 0
    ActorsKeep pays_old pays_new =
        Keeps {S = machine} {T = core_language core_machine.Waiting Kept} (Related coding types p core messages own Safe) (SameKept coding types p core messages own Fits) (Weighs times) Allowed pays_old pays_new own typed made
