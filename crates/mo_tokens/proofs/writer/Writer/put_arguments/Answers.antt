use Rattle.std.proofs.Common.{append_assoc}
use Rattle.mo_tokens.proofs.writer.Writer.put_arguments.Goals as goal

pub returns : goal.returns
returns g c = simp (c.in_ok-put_mark.ensures, c.in_ok-put_expressions.ensures, c.as_slice.ensures, append_assoc) at c.put_mark-2.ensures
