use Rattle.abstract_type_walk.proofs.type_making.+type_within.Given as goal

abbrev pub decreases-type_within : goal.decreases-type_within
decreases-type_within l = l.depth
