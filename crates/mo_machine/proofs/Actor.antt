-- A program whose executions are the machine's is the program.
use Rattle.std.proofs.Common.{◌≡◌, ℕ, Option, sym, ap}
use Rattle.mo_values.specs.Shapes.{Bytes}
use Rattle.typed_tree.specs.Programs.{Program}
use Rattle.mo_meaning.specs.Actor.{meaning, surroundings}
use Rattle.mo_meaning.specs.Bodies as bodies
use Rattle.mo_meaning.specs.Bodies.{shared_progress, results_of}
use Rattle.mo_meaning.specs.Coding.{Types, Coding}
use Rattle.mo_meaning.specs.Configurations.{Surroundings}
use Rattle.mo_meaning.specs.Kernel.{Fields, Body, Kept}
use Rattle.mo_meaning.specs.Saving as saving
use Rattle.mo_meaning.specs.Saving.{alone, saving_from, kept_progress}
use Rattle.mo_meaning.specs.Starting as starting
use Rattle.mo_meaning.specs.Starting.{start_from, fields_progress}
use Rattle.mo_machine.specs.Actor.{body_execution, start, save, by_machine}
use Rattle.mo_machine.proofs.Runs.{run_same, body_same}

execution_same : (s : Surroundings) (fields : Fields) (body : Body) (n : ℕ) → body_execution s fields body n ≡ bodies.body_execution s fields body n
execution_same s fields body n = ap (shared_progress fields (results_of body)) (sym (body_same s fields body n))

module _ (coding : Coding) (types : Types) (p : Program) where
  start_same : (own : Bytes) (kept : Option Kept) (n : ℕ) → start coding types p own kept n ≡ starting.start coding types p own kept n
  start_same own kept n = ap fields_progress (sym (run_same (alone coding types own) n (start_from coding types p own kept)))

  save_same : (own : Bytes) (fields : Fields) (n : ℕ) → save coding types p own fields n ≡ saving.save coding types p own fields n
  save_same own fields n =
      ap (kept_progress coding types p fields.exports) (sym (run_same (alone coding types own) n (saving_from p fields)))

pub by_machine_same : (coding : Coding) (first : ℕ) (types : Types) (p : Program) → by_machine coding first types p ≡ meaning coding first types p
by_machine_same coding first types p = λ i. record (meaning coding first types p) {
  run = λ own table fields body n. execution_same (surroundings coding types own table) fields body n i;
  start = λ own kept n. start_same coding types p own kept n i;
  save = λ own fields n. save_same coding types p own fields n i;
}
