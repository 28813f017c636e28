use Rattle.std.proofs.Common.{append_assoc}
use Rattle.mo_tokens.proofs.writer.Writer.put_assign.Goals as goal

pub returns : goal.returns
returns g c = simp (c.in_ok-put.ensures, c.in_ok-put_assignment.ensures, append_assoc) at c.put-2.ensures
