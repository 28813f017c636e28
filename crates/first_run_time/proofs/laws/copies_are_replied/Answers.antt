use Rattle.first_run_time.proofs.Replied.{copies_replied}
use Rattle.first_run_time.proofs.laws.copies_are_replied.Goals as goal

pub returns : goal.returns
returns c = copies_replied
