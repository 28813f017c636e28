use Rattle.std.proofs.Common.{append_assoc}
use Rattle.mo_tokens.proofs.writer.Writer.put_do_optional.Goals as goal

pub returns : goal.returns
returns g c = simp (c.in_ok-put_word.ensures, append_assoc) at c.put_mark_and.ensures
