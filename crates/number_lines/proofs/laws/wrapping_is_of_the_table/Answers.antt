use Rattle.number_lines.proofs.Tabled.{wrapping_tabled}
use Rattle.number_lines.proofs.laws.wrapping_is_of_the_table.Goals as goal

pub returns : goal.returns
returns g c = wrapping_tabled _
