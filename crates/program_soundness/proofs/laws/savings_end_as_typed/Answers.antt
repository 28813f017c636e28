use Rattle.program_soundness.proofs.Given.{lawful_types, program_shares}
use Rattle.program_soundness.proofs.Saves.{hook_run_ends, hook_saves}
use Rattle.typed_tree.specs.ProgramView.{program}
use Rattle.program_soundness.proofs.Turns.{run_quiet}
use Rattle.program_soundness.specs.Results.{GivesResults, AreResults}
use Rattle.mo_soundness.specs.Running.{still}
use Rattle.mo_meaning.specs.Saving.{alone, saving_from}
use Rattle.mo_meaning.specs.Turns.{turns}
use Rattle.std.proofs.Common.{[], refl}
use Rattle.program_soundness.proofs.laws.savings_end_as_typed.Goals as goal
use Rattle.program_soundness.specs.Worlds.{running}

pub returns-clause-ends : goal.returns-clause-ends
returns-clause-ends c = λ coding p w own answers kinds fields n typed.
    hook_run_ends coding p.types (program p) (lawful_types p.types w.types w.basics) w.types own answers kinds fields typed n

pub returns-clause-saved : goal.returns-clause-saved
returns-clause-saved c = λ coding p w own answers kinds fields n c v typed q.
    hook_saves coding p.types (program p) (lawful_types p.types w.types w.basics) w.types (program_shares p w).stable own answers kinds fields typed n c v q

pub returns-clause-settles : goal.returns-clause-settles
returns-clause-settles c = λ coding p w own answers kinds fields n c end typed q.
    run_quiet (alone coding p.types own) (GivesResults (running p.types) []) (AreResults (running p.types) []) (turns (alone coding p.types own) n (saving_from (program p) fields)) c end (still answers) kinds refl
    (hook_run_ends coding p.types (program p) (lawful_types p.types w.types w.basics) w.types own answers kinds fields typed n) q
