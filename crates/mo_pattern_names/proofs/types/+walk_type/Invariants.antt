use Rattle.mo_pattern_names.proofs.types.+walk_type.Given as goal

abbrev pub decreases-walk_type : goal.decreases-walk_type
decreases-walk_type l = l.depth
