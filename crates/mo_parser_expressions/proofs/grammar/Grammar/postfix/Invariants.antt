use Rattle.std.proofs.Common.{◌≡◌, ◌-◌}
use Rattle.mo_parser_expressions.specs.Expressions.{postfix, chain, expression_at, declaration_at}
use Rattle.mo_parser_expressions.proofs.grammar.Grammar.postfix.Given as goal

abbrev pub invariant-loop-turn : goal.invariant-loop-turn
invariant-loop-turn g l = postfix (expression_at l.self.depth) (declaration_at l.self.depth) l.fn.tokens ≡ chain (expression_at l.self.depth) (declaration_at l.self.depth) (l._turn-end - l._turn) l.a l.tokens
