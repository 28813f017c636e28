use Rattle.std.proofs.Common.{refl}
use Rattle.pattern_coverage.proofs.Samples.{tells}
use Rattle.pattern_coverage.proofs.rows.coverage_is_as_wanted.Goals as goal

pub returns-clause-values : goal.returns-clause-values
returns-clause-values c = tells

pub returns-clause-answers : goal.returns-clause-answers
returns-clause-answers c = refl

pub returns-clause-edges : goal.returns-clause-edges
returns-clause-edges c = refl
