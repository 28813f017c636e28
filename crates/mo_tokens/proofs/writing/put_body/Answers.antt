use Rattle.std.proofs.Common.{append_assoc}
use Rattle.mo_tokens.proofs.writing.put_body.Goals as goal

pub returns : goal.returns
returns c = simp append_assoc (simp (c.in_ok-put_mark.ensures, c.in_ok-put_actor_fields.ensures, c.in_ok-put_mark_if.ensures, c.as_slice.ensures, append_assoc) at c.put_mark-2.ensures)
