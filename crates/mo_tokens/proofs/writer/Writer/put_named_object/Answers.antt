use Rattle.std.proofs.Common.{append_assoc}
use Rattle.mo_tokens.proofs.writer.Writer.put_named_object.Goals as goal

pub returns : goal.returns
returns g c = simp append_assoc (simp (c.in_ok-put_word_name.ensures, append_assoc) at c.put_members.ensures)
