use Rattle.mo_parser_types.proofs.Whole.{found, only}
use Rattle.mo_parser_types.proofs.start.read_type.Goals as goal

pub returns-clause-found : goal.returns-clause-found
returns-clause-found c = found c.args.tokens.now c.a_type.result c.a_type.new.tokens c.a_type.ensures

pub returns-clause-only : goal.returns-clause-only
returns-clause-only c = only c.args.tokens.now c.a_type.result c.a_type.new.tokens c.a_type.ensures
