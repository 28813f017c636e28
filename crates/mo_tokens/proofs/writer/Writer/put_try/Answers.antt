use Rattle.std.proofs.Common.{append_assoc}
use Rattle.mo_tokens.proofs.writer.Writer.put_try.Goals as goal

pub returns : goal.returns
returns g c = simp (c.in_ok-put_word_and.ensures, c.in_ok-put_word.ensures, c.in_ok-put_pattern.ensures, c.get.ensures, append_assoc) at c.put.ensures
