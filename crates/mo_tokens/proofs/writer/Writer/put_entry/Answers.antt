use Rattle.std.proofs.Common.{append_assoc}
use Rattle.mo_tokens.proofs.writer.Writer.put_entry.Goals as goal

pub returns : goal.returns
returns g c = simp (c.in_ok-put_word_if.ensures, c.in_ok-put_name.ensures, c.in_ok-put_annotation.ensures, append_assoc) at c.put_value.ensures
