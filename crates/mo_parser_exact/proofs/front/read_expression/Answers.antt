use Rattle.mo_parser_exact.proofs.Found.{found_expression, only_expression}
use Rattle.mo_parser_exact.proofs.front.read_expression.Goals as goal

pub returns-clause-found : goal.returns-clause-found
returns-clause-found c = found_expression c.args.tokens.now c.read_expression.result c.read_expression.new.tokens c.read_expression.ensures

pub returns-clause-only : goal.returns-clause-only
returns-clause-only c = only_expression c.args.tokens.now c.read_expression.result c.read_expression.new.tokens c.read_expression.ensures
