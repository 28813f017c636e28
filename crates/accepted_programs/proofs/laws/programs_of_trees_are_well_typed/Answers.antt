use Rattle.accepted_programs.proofs.Programs.{programs_of_trees_are_well_typed}
use Rattle.accepted_programs.proofs.laws.programs_of_trees_are_well_typed.Goals as goal

pub returns : goal.returns
returns c = programs_of_trees_are_well_typed
