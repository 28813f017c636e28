use Rattle.wire_numbers.proofs.Sent.{numbers_are_written as kept}
use Rattle.wire_numbers.proofs.laws.numbers_are_written.Goals as goal

pub returns : goal.returns
returns g c = kept _
