use Rattle.operation_codes.proofs.Shallow.{shallow}
use Rattle.operation_codes.proofs.laws.codes_are_shallow.Goals as goal

pub returns : goal.returns
returns c = shallow
