use Rattle.kernel_trees.proofs.recursion.+kernel_trees.Given as goal

abbrev pub decreases-expression_within : goal.decreases-expression_within
decreases-expression_within l = l.part.depth

abbrev pub decreases-list_within : goal.decreases-list_within
decreases-list_within l = l.part.depth
