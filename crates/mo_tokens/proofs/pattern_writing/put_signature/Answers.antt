use Rattle.std.proofs.Common.{append_assoc}
use Rattle.mo_tokens.proofs.pattern_writing.put_signature.Goals as goal

pub returns : goal.returns
returns c = simp (c.in_ok-put_parameters.ensures, c.in_ok-put_annotation.ensures, append_assoc) at c.put_mark_if.ensures
