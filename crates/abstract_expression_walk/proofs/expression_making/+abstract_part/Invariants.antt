use Rattle.abstract_expression_walk.proofs.expression_making.+abstract_part.Given as goal

abbrev pub decreases-expression_within : goal.decreases-expression_within
decreases-expression_within l = l.depth

abbrev pub decreases-declaration_within : goal.decreases-declaration_within
decreases-declaration_within l = l.depth
