use Rattle.mo_actor.specs.Measures.{Never, Spent, Unmeasured}
use Rattle.mo_actor.proofs.Looser.{looser_run}
use Rattle.mo_actor.proofs.laws.measured_runs_are_runs.Goals as goal

pub returns-clause-runs : goal.returns-clause-runs
returns-clause-runs g c = λ steps stack pages programs own events items h. looser_run (Spent steps stack pages) Unmeasured (λ e spent. tt) programs own events items h

pub returns-clause-unexhausted : goal.returns-clause-unexhausted
returns-clause-unexhausted g c = λ steps stack pages programs own events items h. looser_run Never (Spent steps stack pages) (λ e none. absurd none) programs own events items h
