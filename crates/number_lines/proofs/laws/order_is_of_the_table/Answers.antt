use Rattle.number_lines.proofs.Tabled.{order_tabled}
use Rattle.number_lines.proofs.laws.order_is_of_the_table.Goals as goal

pub returns : goal.returns
returns g c = order_tabled _
