use Rattle.elaboration_values.proofs.Belong.{stay}
use Rattle.elaboration_values.proofs.laws.values_stay.Goals as goal

pub returns : goal.returns
returns c = stay
