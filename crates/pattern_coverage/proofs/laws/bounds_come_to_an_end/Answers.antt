use Rattle.pattern_coverage.proofs.Ends.{ends}
use Rattle.pattern_coverage.proofs.laws.bounds_come_to_an_end.Goals as goal

pub returns : goal.returns
returns c = λ types t lawful. ends types lawful t
