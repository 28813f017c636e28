use Rattle.machine_nesting.proofs.Sizes.{nested_programs_are_sized}
use Rattle.machine_nesting.proofs.laws.nested_programs_are_sized.Goals as goal

pub returns : goal.returns
returns c = nested_programs_are_sized
