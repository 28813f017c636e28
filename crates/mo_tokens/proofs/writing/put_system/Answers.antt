use Rattle.std.proofs.Common.{append_assoc}
use Rattle.mo_tokens.proofs.writing.put_system.Goals as goal

pub returns : goal.returns
returns c = simp (c.in_ok-put_word.ensures, c.in_ok-put_word-2.ensures, c.in_ok-put_name.ensures, append_assoc) at c.put_no_parameters.ensures
