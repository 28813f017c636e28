-- The state of an actor whose programs are well typed (Motoko language manual, sections "Actors", "Async" and "Type soundness").
use Rattle.std.specs.Prelude.{◌≡◌, ◌<◌, ◌≤◌, ◌^◌, ℕ, List, length, true, Some, slice_get}
use Rattle.std.specs.Str.{is_utf8}
use Rattle.play_script.specs.declared.event.Event.{Event}
use Rattle.play_script.specs.declared.event.Event.TheVariants as event
use Rattle.mo_types.specs.declared.node.TypeId.{TypeId}
use Rattle.mo_types.specs.Calls.{Call, CallTable, call_at, next_number, is_open_state}
use Rattle.mo_types.specs.Graph.{Slot}
use Rattle.mo_actor.specs.Programs as actor
use Rattle.mo_actor.specs.States.{WaitsFor, Actor, ActorState, NoActor, Running, activation_at}
use Rattle.typed_tree.specs.declared.program.Program.{Program as TypedProgram}
use Rattle.typed_tree.specs.Programs.{Program}
use Rattle.typed_tree.specs.ProgramView.{program}
use Rattle.typed_tree.specs.WellTyped.{WellTyped}
use Rattle.mo_meaning.specs.Acts.{Given}
use Rattle.mo_meaning.specs.Actor.{meaning}
use Rattle.mo_meaning.specs.Coding.{Coding}
use Rattle.mo_meaning.specs.Kernel.{kernel, Waiting}
use Rattle.mo_soundness.specs.Running.{AnswerTypes}
use Rattle.program_soundness.specs.Agreement.{WaitsOn, Agrees, awaited_by}
use Rattle.program_soundness.specs.Bodies.{FieldsTyped, WaitingTyped}
use Rattle.program_soundness.specs.Worlds.{running}

-- an event as a host gives it: its caller is a principal, its code one of 32 bits, and its text is UTF-8
abbrev pub IsProper : Event → Type 0
IsProper (event.Call query name caller bytes) = length caller ≤ 29
IsProper (event.Reject number code text) = (code < 2 ^ 32) × (is_utf8 text ≡ true)
IsProper _ = Unit {0}

module _ (types : List Slot) (p : Program) where
  -- what waits on an open call gives its results, and stands at the `await` of the future that this call answers
  pub record WaitFits (answers : AnswerTypes) (kinds : List TypeId) (table : CallTable (List TypeId) Given) (number : ℕ) (w : Waiting) : Type 0 where
    pub made : number < next_number table
    pub typed : (call : Call (List TypeId) Given) → call_at table number ≡ Some call → is_open_state call.state ≡ true
        → WaitingTyped types p answers kinds w × WaitsOn (running types) (awaited_by number call.resumes) w.at

  -- The invariant: with some types of the answers to calls and of the cells, the store and what is exported are typed, the calls agree with them, and so does
  -- what waits.
  pub record ActorTyped (a : Actor kernel) : Type 0 where
    pub answers : AnswerTypes
    pub kinds : List TypeId
    pub may_call : answers.may_call ≡ true
    pub fields : FieldsTyped types p answers kinds a.store
    pub calls : Agrees (running types) answers kinds a.table
    pub waits : (owner number : ℕ) (w : Waiting) → activation_at a.activations owner ≡ WaitsFor number w → WaitFits answers kinds a.table number w

-- a program that is typed
pub record IsTypedProgram (coding : Coding) (q : actor.Program kernel) : Type 0 where
  pub program_of : TypedProgram
  pub first : ℕ
  pub well_typed : WellTyped program_of
  pub is : q ≡ meaning coding first program_of.types (program program_of)

-- the same of the state between events: where there is no actor, nothing waits on a call to come
abbrev pub StateTyped : Coding → ActorState kernel → Type 0
StateTyped coding (NoActor made activations) = (owner number : ℕ) (w : Waiting) → activation_at activations owner ≡ WaitsFor number w → number < made
StateTyped coding (Running q a) = (t : IsTypedProgram coding q) × ActorTyped t.program_of.types (program t.program_of) a

abbrev pub AreTyped : Coding → List (actor.Program kernel) → Type 0
AreTyped coding programs = (number : ℕ) (q : actor.Program kernel) → slice_get programs number ≡ Some q → IsTypedProgram coding q

abbrev pub IsNoInstallation : Event → Type 0
IsNoInstallation (event.Install number) = ⊥
IsNoInstallation _ = Unit {0}

-- of an installation over an actor nothing is said
abbrev pub IsSaid : Event → ActorState kernel → Type 0
IsSaid e (NoActor made activations) = Unit {0}
IsSaid e (Running p a) = IsNoInstallation e
