use Rattle.mo_parser_patterns.proofs.start.+pattern_at.Given as goal

abbrev pub decreases-pattern_at : goal.decreases-pattern_at
decreases-pattern_at l = l.depth
