use Rattle.first_run_time.proofs.Replied.{digits_replied}
use Rattle.first_run_time.proofs.laws.digits_are_replied.Goals as goal

pub returns : goal.returns
returns c = digits_replied
