use Rattle.first_run_time.proofs.Replied.{same_replied}
use Rattle.first_run_time.proofs.laws.same_are_replied.Goals as goal

pub returns : goal.returns
returns c = same_replied
