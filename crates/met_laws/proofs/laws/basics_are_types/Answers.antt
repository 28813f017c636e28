use Rattle.met_laws.proofs.Staying.{basics_are_met}
use Rattle.met_laws.proofs.laws.basics_are_types.Goals as goal

pub returns : goal.returns
returns c = basics_are_met
