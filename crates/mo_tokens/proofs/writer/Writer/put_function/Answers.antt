use Rattle.std.proofs.Common.{append_assoc}
use Rattle.mo_tokens.proofs.writer.Writer.put_function.Goals as goal

pub returns : goal.returns
returns g c = simp append_assoc (simp (c.in_ok-put_word.ensures, c.in_ok-put_signature.ensures, append_assoc) at c.put.ensures)
