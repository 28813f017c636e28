use Rattle.std.proofs.Common.{append_assoc}
use Rattle.mo_tokens.proofs.type_layers.TypeWriter.put_parenthesized.Goals as goal

pub returns : goal.returns
returns g c = simp (c.in_ok-put_mark.ensures, c.in_ok-put_items.ensures, c.as_slice.ensures, append_assoc) at c.put_mark-2.ensures
