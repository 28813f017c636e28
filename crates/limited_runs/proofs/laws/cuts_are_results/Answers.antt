use Rattle.limited_runs.proofs.Exhausted.{results}
use Rattle.limited_runs.proofs.laws.cuts_are_results.Goals as goal

pub returns : goal.returns
returns g c = results _
