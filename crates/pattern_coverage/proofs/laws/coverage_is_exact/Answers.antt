use Rattle.pattern_coverage.proofs.Covered.{exact}
use Rattle.pattern_coverage.proofs.laws.coverage_is_exact.Goals as goal

pub returns : goal.returns
returns g c = λ sample types has t ps lawful tells on. exact sample types has t ps lawful tells on
