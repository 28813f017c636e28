use Rattle.std.proofs.Common.{append_assoc}
use Rattle.mo_tokens.proofs.writer.Writer.put_type_alias.Goals as goal

pub returns : goal.returns
returns g c = simp (c.in_ok-put_word_name.ensures, c.in_ok-put_names.ensures, c.in_ok-put_mark.ensures, c.get.ensures, append_assoc) at c.put_type.ensures
