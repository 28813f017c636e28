-- A typed program as the machine runs it: an actor that keeps the machine's states. Each of its executions stands for that of
-- the meaning.
use Rattle.std.specs.Prelude.{◌≡◌, ℕ, List, map, Option, Some, None}
use Rattle.mo_types.specs.declared.node.TypeId.{TypeId}
use Rattle.mo_types.specs.Calls.{CallTable}
use Rattle.mo_types.specs.Heads.{map_option}
use Rattle.mo_values.specs.Shapes.{Bytes}
use Rattle.mo_actor.specs.Programs as actor
use Rattle.mo_actor.specs.States.{Activation, IsAnswered, IsDead, WaitsFor, WaitsForNothing, Actor, ActorState, NoActor, Running}
use Rattle.typed_tree.specs.Language as typed
use Rattle.typed_tree.specs.Programs.{Program}
use Rattle.mo_meaning.specs.Acts.{Given}
use Rattle.mo_meaning.specs.Actor.{meaning, surroundings}
use Rattle.mo_meaning.specs.Coding.{Types, Coding}
use Rattle.mo_meaning.specs.Kernel.{kernel, Entry, Kept}
use Rattle.mo_meaning.specs.Messages.{read_values}
use Rattle.mo_machine.specs.ActorLanguage.{machine, Fields, Waiting, Body, Enters, Resumes, unload_fields, unload_waiting, unload_body, unload_effects, on_progress}
use Rattle.mo_machine.specs.Bodies.{execution_of}
use Rattle.mo_machine.specs.Starting.{start_of, save_of}

abbrev pub entered : Entry → Bytes → Option (List typed.Value) → Option Body
entered entry caller None = None
entered entry caller (Some vs) = Some (Enters entry caller vs)

module _ (coding : Coding) (first : ℕ) (types : Types) (p : Program) where
  abbrev meant : actor.Program kernel
  meant = meaning coding first types p

  abbrev pub with_states : actor.Program machine
  with_states = record {
    first_memory = first;
    update = meant.update;
    query = meant.query;
    enter = λ entry caller argument. entered entry caller (read_values coding types entry.parameters argument);
    resume = λ w g. Resumes w g;
    run = λ own table fields body. execution_of (surroundings coding types own table) fields body;
    read = meant.read;
    error_of = meant.error_of;
    start = λ own kept. start_of coding types p own kept;
    save = λ own fields. save_of coding types p own fields;
    argument_cost = meant.argument_cost;
    reply_cost = meant.reply_cost;
    reject_cost = meant.reject_cost;
  }

  -- what is entered, resumed, run, started and saved stands for that of the meaning
  abbrev pub EntersAlike : Type 0
  EntersAlike = (entry : Entry) (caller argument : Bytes) → map_option unload_body (with_states.enter entry caller argument) ≡ meant.enter entry caller argument

  abbrev pub ResumesAlike : Type 0
  ResumesAlike = (w : Waiting) (g : Given) → unload_body (with_states.resume w g) ≡ meant.resume (unload_waiting w) g

  abbrev pub RunsAlike : Type 0
  RunsAlike = (own : Bytes) (table : CallTable (List TypeId) Given) (fields : Fields) (body : Body) (n : ℕ)
      → on_progress unload_effects (with_states.run own table fields body n) ≡ meant.run own table (unload_fields fields) (unload_body body) n

  abbrev pub StartsAlike : Type 0
  StartsAlike = (own : Bytes) (kept : Option Kept) (n : ℕ) → on_progress unload_fields (with_states.start own kept n) ≡ meant.start own kept n

  abbrev pub SavesAlike : Type 0
  SavesAlike = (own : Bytes) (fields : Fields) (n : ℕ) → with_states.save own fields n ≡ meant.save own (unload_fields fields) n

-- ---- actors

-- a typed program with the bytes of its first memory and the nodes of its graph of types
pub record TypedActor : Type 0 where
  pub first : ℕ
  pub types : Types
  pub program : Program

module _ (coding : Coding) where
  abbrev pub by_states : TypedActor → actor.Program machine
  by_states a = with_states coding a.first a.types a.program

  abbrev pub by_meaning : TypedActor → actor.Program kernel
  by_meaning a = meaning coding a.first a.types a.program

-- ---- what an actor of the machine stands for

abbrev pub unload_activation : Activation machine → Activation kernel
unload_activation IsAnswered = IsAnswered
unload_activation IsDead = IsDead
unload_activation (WaitsFor number w) = WaitsFor number (unload_waiting w)
unload_activation WaitsForNothing = WaitsForNothing

abbrev pub unload_actor : Actor machine → Actor kernel
unload_actor a = record { store = unload_fields a.store; table = a.table; activations = map unload_activation a.activations; charged = a.charged }

module _ (coding : Coding) where
  -- the state of the meaning that a state of the machine stands for: both without an actor, or both with one of the same typed program
  pub data UnloadsTo : ActorState machine → ActorState kernel → Type 0 where
    WithoutActor : (made : ℕ) (xs : List (Activation machine)) → UnloadsTo (NoActor made xs) (NoActor made (map unload_activation xs))
    WithActor : (x : TypedActor) (a : Actor machine) → UnloadsTo (Running (by_states coding x) a) (Running (by_meaning coding x) (unload_actor a))
