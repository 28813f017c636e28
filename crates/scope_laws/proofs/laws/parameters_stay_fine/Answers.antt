use Rattle.scope_laws.proofs.Scoped.{parameters_stay_fine}
use Rattle.scope_laws.proofs.laws.parameters_stay_fine.Goals as goal

pub returns : goal.returns
returns c = parameters_stay_fine
