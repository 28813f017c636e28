use Rattle.mo_actor.specs.Measures.{Unmeasured}
use Rattle.mo_actor.proofs.Settled.{unexhausted_runs_are_one}
use Rattle.mo_actor.proofs.Shown.{exhaustions_show, unexhausted_runs_show_none}
use Rattle.mo_actor.proofs.laws.unexhausted_runs_are_one.Goals as goal

pub returns-clause-one : goal.returns-clause-one
returns-clause-one g c = unexhausted_runs_are_one _

pub returns-clause-shown : goal.returns-clause-shown
returns-clause-shown g c = exhaustions_show _ Unmeasured

pub returns-clause-none : goal.returns-clause-none
returns-clause-none g c = unexhausted_runs_show_none _
