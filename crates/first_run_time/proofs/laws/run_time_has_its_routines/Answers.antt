use Rattle.first_run_time.proofs.Formed.{run_time_has}
use Rattle.first_run_time.proofs.laws.run_time_has_its_routines.Goals as goal

pub returns : goal.returns
returns c = run_time_has
