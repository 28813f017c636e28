use Rattle.mo_parser_exact.proofs.Found.{found_declaration, only_declaration}
use Rattle.mo_parser_exact.proofs.front.read_declaration.Goals as goal

pub returns-clause-found : goal.returns-clause-found
returns-clause-found c = found_declaration c.args.tokens.now c.read_declaration.result c.read_declaration.new.tokens c.read_declaration.ensures

pub returns-clause-only : goal.returns-clause-only
returns-clause-only c = only_declaration c.args.tokens.now c.read_declaration.result c.read_declaration.new.tokens c.read_declaration.ensures
