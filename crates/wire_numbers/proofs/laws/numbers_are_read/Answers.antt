use Rattle.wire_numbers.proofs.Kept.{numbers_are_read as kept}
use Rattle.wire_numbers.proofs.laws.numbers_are_read.Goals as goal

pub returns : goal.returns
returns g c = kept _
