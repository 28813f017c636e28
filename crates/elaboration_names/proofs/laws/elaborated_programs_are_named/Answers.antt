use Rattle.elaboration_names.proofs.Named.{programs_are_named}
use Rattle.elaboration_names.proofs.laws.elaborated_programs_are_named.Goals as goal

pub returns : goal.returns
returns c = programs_are_named
