use Rattle.mo_meaning.proofs.Runs.{runs_are_one, calls_stay_few}
use Rattle.mo_meaning.proofs.laws.programs_run_as_actors.Goals as goal

pub returns-clause-one : goal.returns-clause-one
returns-clause-one c = λ coding ps own events items others h k. runs_are_one coding ps own events items others h k

pub returns-clause-few : goal.returns-clause-few
returns-clause-few c = λ coding ps own events p a h. calls_stay_few coding ps own events p a h
