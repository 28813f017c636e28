use Rattle.mo_front.proofs.WellTyped.{accepted_well_typed}
use Rattle.mo_front.proofs.laws.accepted_programs_are_well_typed.Goals as goal

pub returns : goal.returns
returns c = accepted_well_typed
