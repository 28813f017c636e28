use Rattle.elaboration_values.proofs.Belong.{patterns}
use Rattle.elaboration_values.proofs.laws.patterns_belong.Goals as goal

pub returns : goal.returns
returns c = patterns
