use Rattle.mo_parser_types.proofs.start.+type_at.Given as goal

abbrev pub decreases-type_at : goal.decreases-type_at
decreases-type_at l = l.depth
