use Rattle.mo_parser_exact.proofs.Found.{found_body, only_body}
use Rattle.mo_parser_exact.proofs.front.read_body.Goals as goal

pub returns-clause-found : goal.returns-clause-found
returns-clause-found c = found_body c.args.equal_sign c.args.tokens.now c.read_body.result c.read_body.new.tokens c.read_body.ensures

pub returns-clause-only : goal.returns-clause-only
returns-clause-only c = only_body c.args.equal_sign c.args.tokens.now c.read_body.result c.read_body.new.tokens c.read_body.ensures
