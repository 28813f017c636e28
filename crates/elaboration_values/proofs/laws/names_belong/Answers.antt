use Rattle.elaboration_values.proofs.Belong.{names_extend}
use Rattle.elaboration_values.proofs.laws.names_belong.Goals as goal

pub returns : goal.returns
returns c = names_extend
