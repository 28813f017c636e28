use Rattle.low_rules.proofs.Entering.{tested_lines_met}
use Rattle.low_rules.proofs.laws.lines_are_met.Goals as goal

pub returns : goal.returns
returns g c = tested_lines_met _
