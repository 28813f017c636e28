use Rattle.met_laws.proofs.Staying.{unused_is_met, unused_typed}
use Rattle.met_laws.proofs.laws.unused_parameters_are_types.Goals as goal

pub returns-clause-typed : goal.returns-clause-typed
returns-clause-typed c = unused_typed

pub returns-clause-met : goal.returns-clause-met
returns-clause-met c = unused_is_met
