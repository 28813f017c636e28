use Rattle.scope_laws.proofs.Defining.{lists_stay_fine}
use Rattle.scope_laws.proofs.laws.lists_stay_fine.Goals as goal

pub returns : goal.returns
returns c = lists_stay_fine
