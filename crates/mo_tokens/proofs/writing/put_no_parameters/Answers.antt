use Rattle.std.proofs.Common.{append_assoc}
use Rattle.mo_tokens.proofs.writing.put_no_parameters.Goals as goal

pub returns : goal.returns
returns c = simp (c.in_ok-put_mark.ensures, c.in_ok-put_mark-2.ensures, append_assoc) at c.put_mark_if.ensures
