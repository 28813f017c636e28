use Rattle.std.proofs.Common.{rules}
use Rattle.mo_parser_types.specs.Types.{method, type_at}
use Rattle.mo_parser_types.proofs.grammar.Grammar.methods.Goals as goal

pub returns : goal.returns
returns g c = c.read_semicolons.ensures (method (type_at c.args.self.now.depth)) (λ old new r e. search rules)
