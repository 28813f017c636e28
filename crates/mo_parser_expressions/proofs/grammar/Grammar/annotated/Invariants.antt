use Rattle.std.proofs.Common.{◌≡◌, ◌-◌}
use Rattle.mo_parser_expressions.specs.Expressions.{annotated, annotations, expression_at, declaration_at}
use Rattle.mo_parser_expressions.proofs.grammar.Grammar.annotated.Given as goal

abbrev pub invariant-loop-turn : goal.invariant-loop-turn
invariant-loop-turn g l = annotated (expression_at l.self.depth) (declaration_at l.self.depth) l.fn.a l.fn.tokens ≡ annotations (expression_at l.self.depth) (declaration_at l.self.depth) (l._turn-end - l._turn) l.a l.tokens
