use Rattle.std.proofs.Common.{append_assoc}
use Rattle.mo_tokens.proofs.writing.put_heading.Goals as goal

pub returns : goal.returns
returns c = simp (c.in_ok-put_word.ensures, c.in_ok-put_name.ensures, c.in_ok-put_parameters.ensures, append_assoc) at c.put_result.ensures
