use Rattle.formed_cores.proofs.Formed.{named_programs_within_measures_are_formed}
use Rattle.formed_cores.proofs.laws.named_programs_within_measures_are_formed.Goals as goal

pub returns : goal.returns
returns c = named_programs_within_measures_are_formed
