use Rattle.tree_judging.proofs.recursion.+tree_judging.Given as goal

abbrev pub decreases-expression_within : goal.decreases-expression_within
decreases-expression_within l = l.part.depth

abbrev pub decreases-list_within : goal.decreases-list_within
decreases-list_within l = l.part.depth
