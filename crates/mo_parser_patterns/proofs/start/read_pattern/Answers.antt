use Rattle.mo_parser_patterns.specs.Ends.{EndsPattern}
use Rattle.mo_parser_patterns.specs.Patterns.{a_pattern}
use Rattle.mo_parser_patterns.proofs.Whole.{found, only, a_pattern_exact}
use Rattle.mo_parser_patterns.proofs.start.read_pattern.Goals as goal

pub returns-clause-found : goal.returns-clause-found
returns-clause-found c = found a_pattern 0 EndsPattern a_pattern_exact c.args.tokens.now c.a_pattern.result c.a_pattern.new.tokens c.a_pattern.ensures

pub returns-clause-only : goal.returns-clause-only
returns-clause-only c = only a_pattern 0 EndsPattern a_pattern_exact c.args.tokens.now c.a_pattern.result c.a_pattern.new.tokens c.a_pattern.ensures
