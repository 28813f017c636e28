use Rattle.std.proofs.Common.{append_assoc}
use Rattle.mo_tokens.proofs.type_layers.TypeWriter.put_object.Goals as goal

pub returns : goal.returns
returns g c = simp append_assoc (simp (c.in_ok-put_word_if.ensures, c.in_ok-put_mark.ensures, c.in_ok-put_fields.ensures, c.as_slice.ensures, append_assoc) at c.put_end.ensures)
