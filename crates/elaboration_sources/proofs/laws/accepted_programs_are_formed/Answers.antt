use Rattle.elaboration_sources.proofs.Formed.{accepted_programs_are_formed}
use Rattle.elaboration_sources.proofs.laws.accepted_programs_are_formed.Goals as goal

pub returns : goal.returns
returns c = accepted_programs_are_formed
