use Rattle.scope_laws.proofs.Bounding.{bounds_stay_in}
use Rattle.scope_laws.proofs.laws.bounds_stay_in.Goals as goal

pub returns : goal.returns
returns c = bounds_stay_in
