use Rattle.std.proofs.Common.{append_assoc}
use Rattle.mo_tokens.proofs.writing.put_shared_function.Goals as goal

pub returns : goal.returns
returns c = simp append_assoc (simp (c.in_ok-put_prefix.ensures, c.in_ok-put_heading.ensures, c.get.ensures, append_assoc) at c.put_expression.ensures)
