-- The run of an actor by the machine: the program whose executions are those that the machine comes to (Motoko language
-- manual, sections "Actors" and "Shared functions").
use Rattle.std.specs.Prelude.{ℕ, Option}
use Rattle.mo_values.specs.Shapes.{Bytes}
use Rattle.mo_actor.specs.Executions.{Execution}
use Rattle.mo_actor.specs.Programs.{Effects}
use Rattle.mo_actor.specs.Programs as actor
use Rattle.typed_tree.specs.Programs.{Program}
use Rattle.mo_meaning.specs.Actor.{meaning, surroundings}
use Rattle.mo_meaning.specs.Bodies.{shared_progress, results_of}
use Rattle.mo_meaning.specs.Coding.{Types, Coding}
use Rattle.mo_meaning.specs.Configurations.{Surroundings}
use Rattle.mo_meaning.specs.Kernel.{kernel, Fields, Body, Kept}
use Rattle.mo_meaning.specs.Saving.{alone, saving_from, kept_progress}
use Rattle.mo_meaning.specs.Starting.{start_from, fields_progress}
use Rattle.mo_machine.specs.Runs.{unload_run, begun, body_run}
use Rattle.mo_machine.specs.Turns.{turns}

abbrev pub body_execution : Surroundings → Fields → Body → Execution (Effects kernel)
body_execution s fields body n = shared_progress fields (results_of body) (unload_run (body_run s fields body n))

module _ (coding : Coding) (types : Types) (p : Program) where
  abbrev pub start : Bytes → Option Kept → Execution Fields
  start own kept n = fields_progress (unload_run (turns (alone coding types own) n (begun (start_from coding types p own kept))))

  abbrev pub save : Bytes → Fields → Execution Kept
  save own fields n = kept_progress coding types p fields.exports (unload_run (turns (alone coding types own) n (begun (saving_from p fields))))

abbrev pub by_machine : Coding → ℕ → Types → Program → actor.Program kernel
by_machine coding first types p = record (meaning coding first types p) {
  run = λ own table fields body. body_execution (surroundings coding types own table) fields body;
  start = λ own kept. start coding types p own kept;
  save = λ own fields. save coding types p own fields;
}
