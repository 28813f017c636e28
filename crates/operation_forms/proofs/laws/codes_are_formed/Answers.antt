use Rattle.operation_forms.proofs.AllCodes.{codes_formed}
use Rattle.operation_forms.proofs.laws.codes_are_formed.Goals as goal

pub returns : goal.returns
returns c = codes_formed
