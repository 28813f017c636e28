use Rattle.elaboration_sources.proofs.Sources.{accepted_programs_are_judged}
use Rattle.elaboration_sources.proofs.laws.accepted_programs_are_judged.Goals as goal

pub returns : goal.returns
returns c = accepted_programs_are_judged
