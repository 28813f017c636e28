use Rattle.std.proofs.Common.{append_assoc}
use Rattle.mo_tokens.proofs.writing.put_result.Goals as goal

pub returns : goal.returns
returns c = simp append_assoc (simp (c.in_ok-put_mark.ensures, c.in_ok-put_type.ensures, c.get.ensures, append_assoc) at c.put_mark_if.ensures)
