use Rattle.met_laws.proofs.Staying.{parameters_are_met}
use Rattle.met_laws.proofs.laws.type_parameters_are_types.Goals as goal

pub returns : goal.returns
returns c = parameters_are_met
