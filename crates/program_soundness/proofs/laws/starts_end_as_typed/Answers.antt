use Rattle.program_soundness.proofs.Given.{lawful_types, variables_share}
use Rattle.program_soundness.proofs.Installs.{start_ends, start_left}
use Rattle.program_soundness.proofs.Turns.{run_quiet}
use Rattle.program_soundness.specs.Starting.{AreExports}
use Rattle.program_soundness.specs.Starts.{IsStarting, quiet}
use Rattle.mo_meaning.specs.Saving.{alone}
use Rattle.mo_meaning.specs.Starting.{start_from}
use Rattle.mo_meaning.specs.Turns.{turns}
use Rattle.typed_tree.specs.ProgramView.{program}
use Rattle.std.proofs.Common.{[], refl}
use Rattle.program_soundness.proofs.laws.starts_end_as_typed.Goals as goal

pub returns-clause-ends : goal.returns-clause-ends
returns-clause-ends c = λ coding faithful p w own short kept n.
    start_ends p w (lawful_types p.types w.types w.basics) own short coding faithful (variables_share p.types w.end p.stable w.stable) w.types kept n

pub returns-clause-left : goal.returns-clause-left
returns-clause-left c = λ coding faithful p w own short kept n fields q.
    start_left p w (lawful_types p.types w.types w.basics) own short coding faithful (variables_share p.types w.end p.stable w.stable) w.types kept n fields q

pub returns-clause-settles : goal.returns-clause-settles
returns-clause-settles c = λ coding faithful p w own short kept n c end q.
    run_quiet (alone coding p.types own) (IsStarting p.types p kept) (AreExports p.types p) (turns (alone coding p.types own) n (start_from coding p.types (program p) own kept)) c end quiet [] refl
    (start_ends p w (lawful_types p.types w.types w.basics) own short coding faithful (variables_share p.types w.end p.stable w.stable) w.types kept n) q
