use Rattle.closed_rules.proofs.Equality.{compared}
use Rattle.closed_rules.proofs.laws.equality_stays.Goals as goal

pub returns-clause-compared : goal.returns-clause-compared
returns-clause-compared g = λ types first past lawful t c. (compared types first past lawful t c).comparable

pub returns-clause-same : goal.returns-clause-same
returns-clause-same g = λ types first past lawful t c v w. (compared types first past lawful t c).same v w
