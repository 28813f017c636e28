use Rattle.first_run_time.proofs.Replied.{orders_replied}
use Rattle.first_run_time.proofs.laws.orders_are_replied.Goals as goal

pub returns : goal.returns
returns c = orders_replied
