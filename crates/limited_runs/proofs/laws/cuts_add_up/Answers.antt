use Rattle.limited_runs.proofs.Exhausted.{add_up}
use Rattle.limited_runs.proofs.laws.cuts_add_up.Goals as goal

pub returns : goal.returns
returns c = add_up
