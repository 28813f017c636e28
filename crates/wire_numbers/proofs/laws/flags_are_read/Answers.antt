use Rattle.wire_numbers.proofs.Kept.{flags_are_read as kept}
use Rattle.wire_numbers.proofs.laws.flags_are_read.Goals as goal

pub returns : goal.returns
returns g c = kept _
