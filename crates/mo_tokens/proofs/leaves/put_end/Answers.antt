use Rattle.mo_tokens.proofs.leaves.put_end.Goals as goal

pub returns : goal.returns
returns c = simp (c.in_ok-put_mark_if.ensures) at c.put_mark.ensures
