use Rattle.mo_parser_base.proofs.Exact.{Any}
use Rattle.mo_parser_patterns.specs.Patterns.{a_case_pattern}
use Rattle.mo_parser_patterns.proofs.Whole.{found, only, a_case_pattern_exact}
use Rattle.mo_parser_patterns.proofs.start.read_case_pattern.Goals as goal

pub returns-clause-found : goal.returns-clause-found
returns-clause-found c = found a_case_pattern 3 Any a_case_pattern_exact c.args.tokens.now c.a_case_pattern.result c.a_case_pattern.new.tokens c.a_case_pattern.ensures

pub returns-clause-only : goal.returns-clause-only
returns-clause-only c = λ x rest front. only a_case_pattern 3 Any a_case_pattern_exact c.args.tokens.now c.a_case_pattern.result c.a_case_pattern.new.tokens c.a_case_pattern.ensures x rest front tt
