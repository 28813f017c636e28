use Rattle.mo_pattern_names.proofs.patterns.+walk_pattern.Given as goal

abbrev pub decreases-walk_pattern : goal.decreases-walk_pattern
decreases-walk_pattern l = l.depth
