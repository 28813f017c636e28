use Rattle.std.proofs.Common.{◌≡◌, ◌-◌}
use Rattle.mo_parser_patterns.specs.Patterns.{alternatives, more, pattern_at}
use Rattle.mo_parser_patterns.proofs.grammar.Grammar.alternatives.Given as goal

abbrev pub invariant-loop-turn : goal.invariant-loop-turn
invariant-loop-turn g l = alternatives (pattern_at l.self.depth) l.fn.tokens ≡ more (pattern_at l.self.depth) (l._turn-end - l._turn) l.left l.tokens
