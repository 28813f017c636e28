use Rattle.first_run_time.proofs.Begun.{run_time_begins}
use Rattle.first_run_time.proofs.laws.run_time_begins_with_a_heap.Goals as goal

pub returns : goal.returns
returns c = run_time_begins
