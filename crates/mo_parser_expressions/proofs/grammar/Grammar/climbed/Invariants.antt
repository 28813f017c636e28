use Rattle.std.proofs.Common.{◌≡◌, ◌-◌}
use Rattle.mo_parser_expressions.specs.Expressions.{climbed, climb, expression_at, declaration_at}
use Rattle.mo_parser_expressions.proofs.grammar.Grammar.climbed.Given as goal

abbrev pub invariant-loop-turn : goal.invariant-loop-turn
invariant-loop-turn g l = climbed (expression_at l.self.depth) (declaration_at l.self.depth) l.least l.fn.a l.fn.tokens ≡ climb (expression_at l.self.depth) (declaration_at l.self.depth) l.least l.height (l._turn-end - l._turn) l.a l.tokens
