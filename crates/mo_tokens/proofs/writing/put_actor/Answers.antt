use Rattle.std.proofs.Common.{append_assoc}
use Rattle.mo_tokens.proofs.writing.put_actor.Goals as goal

pub returns : goal.returns
returns c = simp append_assoc (simp (c.in_ok-put_word.ensures, c.in_ok-put_optional_name.ensures, c.in_ok-put_mark_if.ensures, append_assoc) at c.put_body.ensures)
