use Rattle.std.proofs.Common.{arith}
use Rattle.std.proofs.lemmas.Bool.{le-leb}
use Rattle.mo_num.proofs.Widths.{seven_bits}
use Rattle.mo_num.proofs.leb_reader.fits.Goals as goal

pub returns-then-bits-ge7 : goal.returns-then-bits-ge7
returns-then-bits-ge7 c = (λ _. seven_bits c.args.bits c.args.digit (omega arith) c.requires, λ _. le-leb 7 c.args.bits (omega arith))
