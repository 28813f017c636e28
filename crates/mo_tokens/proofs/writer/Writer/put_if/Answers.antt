use Rattle.std.proofs.Common.{append_assoc}
use Rattle.mo_tokens.proofs.writer.Writer.put_if.Goals as goal

pub returns : goal.returns
returns g c = simp (c.in_ok-put_word_and.ensures, c.in_ok-put.ensures, append_assoc) at c.put_led.ensures
