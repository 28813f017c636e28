use Rattle.number_lines.proofs.Tabled.{negation_tabled}
use Rattle.number_lines.proofs.laws.negation_is_of_the_table.Goals as goal

pub returns : goal.returns
returns g c = negation_tabled _
