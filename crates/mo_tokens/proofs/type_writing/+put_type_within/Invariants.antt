use Rattle.mo_tokens.proofs.type_writing.+put_type_within.Given as goal

abbrev pub decreases-put_type_within : goal.decreases-put_type_within
decreases-put_type_within l = l.depth
