use Rattle.std.proofs.Common.{arith}
use Rattle.mo_num.proofs.Register.{bit_same, bit_other, differs_same, differs_other}
use Rattle.mo_num.proofs.crc.after_bit.Goals as goal

pub returns-then-register-bit : goal.returns-then-register-bit
returns-then-register-bit c = bit_same c.args.register c.args.bit (omega arith) (differs_same _ _ c.if-register-bit.true)

pub returns-else-register-bit : goal.returns-else-register-bit
returns-else-register-bit c = bit_other c.args.register c.args.bit (omega arith) (differs_other _ _ c.if-register-bit.false)
