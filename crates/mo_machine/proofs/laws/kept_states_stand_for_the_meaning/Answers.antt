use Rattle.mo_machine.proofs.States.{enters_alike, resumes_alike, runs_alike, starts_alike, saves_alike}
use Rattle.mo_machine.proofs.laws.kept_states_stand_for_the_meaning.Goals as goal

pub returns-clause-enters : goal.returns-clause-enters
returns-clause-enters c = λ coding first types p. enters_alike coding first types p

pub returns-clause-resumes : goal.returns-clause-resumes
returns-clause-resumes c = λ coding first types p. resumes_alike coding first types p

pub returns-clause-runs : goal.returns-clause-runs
returns-clause-runs c = λ coding first types p. runs_alike coding first types p

pub returns-clause-starts : goal.returns-clause-starts
returns-clause-starts c = λ coding first types p. starts_alike coding first types p

pub returns-clause-saves : goal.returns-clause-saves
returns-clause-saves c = λ coding first types p. saves_alike coding first types p
