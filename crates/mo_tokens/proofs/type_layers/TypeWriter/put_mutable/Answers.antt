use Rattle.std.proofs.Common.{append_assoc}
use Rattle.mo_tokens.proofs.type_layers.TypeWriter.put_mutable.Goals as goal

pub returns : goal.returns
returns g c = simp (c.in_ok-put_word_if.ensures, append_assoc) at c.put_annotated.ensures
