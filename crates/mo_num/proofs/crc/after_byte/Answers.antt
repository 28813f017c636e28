use Rattle.std.proofs.Common.{ap, ◌∙◌}
use Rattle.mo_num.specs.Crc.{bits, remainder}
use Rattle.mo_num.proofs.Register.{byte_bits}
use Rattle.mo_num.proofs.crc.after_byte.Goals as goal

pub returns : goal.returns
returns c = λ more.
    ap (λ l. remainder (bits 32 c.args.register) l) (byte_bits c.args.byte more)
    ∙ c.after_bit-register.ensures _
    ∙ c.after_bit-register-2.ensures _
    ∙ c.after_bit-register-3.ensures _
    ∙ c.after_bit-register-4.ensures _
    ∙ c.after_bit-register-5.ensures _
    ∙ c.after_bit-register-6.ensures _
    ∙ c.after_bit-register-7.ensures _
    ∙ c.after_bit.ensures more
