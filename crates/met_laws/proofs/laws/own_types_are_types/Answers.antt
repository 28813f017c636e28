use Rattle.met_laws.proofs.Staying.{own_are_met}
use Rattle.met_laws.proofs.laws.own_types_are_types.Goals as goal

pub returns : goal.returns
returns c = own_are_met
