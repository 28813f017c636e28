use Rattle.number_lines.proofs.Tabled.{sameness_tabled}
use Rattle.number_lines.proofs.laws.sameness_is_of_the_table.Goals as goal

pub returns : goal.returns
returns g c = sameness_tabled _
