use Rattle.well_typed_laws.proofs.Programs.{programs_are_well_typed}
use Rattle.well_typed_laws.proofs.laws.programs_are_well_typed.Goals as goal

pub returns : goal.returns
returns c = programs_are_well_typed
