use Rattle.elaboration_judged.proofs.Formed.{judged_programs_are_formed}
use Rattle.elaboration_judged.proofs.laws.judged_programs_are_formed.Goals as goal

pub returns : goal.returns
returns c = judged_programs_are_formed
