use Rattle.operation_forms.proofs.AllCodes.{routines_formed}
use Rattle.operation_forms.proofs.laws.routines_are_formed.Goals as goal

pub returns : goal.returns
returns c = routines_formed
