use Rattle.abstract_pattern_walk.proofs.pattern_making.+pattern_within.Given as goal

abbrev pub decreases-pattern_within : goal.decreases-pattern_within
decreases-pattern_within l = l.depth
