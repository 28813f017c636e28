use Rattle.mo_actor.specs.Measures.{Spent, Unmeasured}
use Rattle.stepper.proofs.Runs.{meant_runs}
use Rattle.stepper.proofs.laws.steps_are_runs.Goals as goal

pub returns-clause-runs : goal.returns-clause-runs
returns-clause-runs c = λ coding faithful firsts x events items first steps. meant_runs Unmeasured coding faithful firsts x events items first steps

pub returns-clause-measured : goal.returns-clause-measured
returns-clause-measured c = λ most stack pages coding faithful firsts x events items first steps. meant_runs (Spent most stack pages) coding faithful firsts x events items first steps
