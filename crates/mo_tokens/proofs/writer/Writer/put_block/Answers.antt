use Rattle.std.proofs.Common.{append_assoc}
use Rattle.mo_tokens.proofs.writer.Writer.put_block.Goals as goal

pub returns : goal.returns
returns g c = simp append_assoc (simp (c.in_ok-put_mark.ensures, c.in_ok-put_declarations.ensures, c.as_slice.ensures, append_assoc) at c.put_end.ensures)
