use Rattle.std.proofs.Common.{append_assoc}
use Rattle.mo_tokens.proofs.type_layers.TypeWriter.put_function.Goals as goal

pub returns : goal.returns
returns g c = simp append_assoc (simp (c.in_ok-put_sharing.ensures, c.in_ok-put.ensures, c.in_ok-put_mark.ensures, append_assoc) at c.put-2.ensures)
