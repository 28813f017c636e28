use Rattle.mo_actor.specs.Measures.{Spent, Unmeasured}
use Rattle.mo_machine.proofs.ActorRuns.{run_alike}
use Rattle.mo_machine.proofs.laws.runs_with_kept_states_are_runs.Goals as goal

pub returns-clause-runs : goal.returns-clause-runs
returns-clause-runs c = λ coding actors own events items h. run_alike coding own actors Unmeasured events items h

pub returns-clause-measured : goal.returns-clause-measured
returns-clause-measured c = λ steps stack pages coding actors own events items h. run_alike coding own actors (Spent steps stack pages) events items h
