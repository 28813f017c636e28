use Rattle.std.proofs.Common.{append_assoc}
use Rattle.mo_tokens.proofs.writer.Writer.put_var.Goals as goal

pub returns : goal.returns
returns g c = simp (c.in_ok-put_word_name.ensures, c.in_ok-put_annotation.ensures, append_assoc) at c.put_mark_and.ensures
