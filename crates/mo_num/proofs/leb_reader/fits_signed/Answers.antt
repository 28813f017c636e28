use Rattle.std.proofs.Common.{arith, refl}
use Rattle.mo_num.proofs.Widths.{seven_signed}
use Rattle.mo_num.proofs.leb_reader.fits_signed.Goals as goal

pub returns-then-bits-ge7 : goal.returns-then-bits-ge7
returns-then-bits-ge7 c = (λ _. seven_signed c.args.bits c.args.digit (omega arith) c.requires.signed, λ _. refl)
