use Rattle.mo_num.proofs.ArithLaws.{division_whole, remainder_small}
use Rattle.mo_num.proofs.arith_laws.division_law.Goals as goal

pub returns-clause-whole : goal.returns-clause-whole
returns-clause-whole c = division_whole

pub returns-clause-small : goal.returns-clause-small
returns-clause-small c = remainder_small
