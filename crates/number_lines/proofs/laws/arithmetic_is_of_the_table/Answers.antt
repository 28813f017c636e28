use Rattle.number_lines.proofs.Tabled.{arithmetic_tabled}
use Rattle.number_lines.proofs.laws.arithmetic_is_of_the_table.Goals as goal

pub returns : goal.returns
returns g c = arithmetic_tabled _
