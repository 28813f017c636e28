use Rattle.std.proofs.Common.{rules}
use Rattle.mo_parser_expressions.specs.Expressions.{declaration_at}
use Rattle.mo_parser_expressions.proofs.grammar.Grammar.declarations.Goals as goal

pub returns : goal.returns
returns g c = c.read_semicolons.ensures (declaration_at c.args.self.now.depth) (λ old new r e. search rules)
