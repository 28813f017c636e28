use Rattle.pattern_coverage.proofs.Standing.{reflexive, stands_on}
use Rattle.pattern_coverage.proofs.laws.patterns_that_stand_are_on.Goals as goal

pub returns : goal.returns
returns c = λ types lawful parameters p t names stands. stands_on types lawful parameters p t t names stands (reflexive types lawful parameters t)
