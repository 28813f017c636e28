use Rattle.std.proofs.Common.{append_assoc}
use Rattle.mo_tokens.proofs.leaves.put_tag.Goals as goal

pub returns : goal.returns
returns c = simp (c.in_ok-put_mark.ensures, append_assoc) at c.put_name.ensures
