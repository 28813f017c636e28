use Rattle.mo_name_walk.proofs.expressions.+walk_part.Given as goal

abbrev pub decreases-walk_part : goal.decreases-walk_part
decreases-walk_part l = l.depth
