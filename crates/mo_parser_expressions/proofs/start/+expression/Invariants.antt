use Rattle.mo_parser_expressions.proofs.start.+expression.Given as goal

abbrev pub decreases-expression_at : goal.decreases-expression_at
decreases-expression_at l = l.depth

abbrev pub decreases-declaration_at : goal.decreases-declaration_at
decreases-declaration_at l = l.depth
