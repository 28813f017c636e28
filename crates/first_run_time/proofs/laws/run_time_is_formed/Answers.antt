use Rattle.first_run_time.proofs.Formed.{run_time_formed}
use Rattle.first_run_time.proofs.laws.run_time_is_formed.Goals as goal

pub returns : goal.returns
returns c = run_time_formed
