use Rattle.mo_num.proofs.ArithLaws.{wrapped_one}
use Rattle.mo_num.proofs.arith_laws.wrapping_law.Goals as goal

pub returns : goal.returns
returns c = wrapped_one
