use Rattle.std.proofs.Common.{rules}
use Rattle.mo_parser_expressions.specs.Expressions.{entry, expression_at, declaration_at}
use Rattle.mo_parser_expressions.proofs.grammar.Grammar.entries.Goals as goal

pub returns : goal.returns
returns g c = c.read_semicolons.ensures (entry (expression_at c.args.self.now.depth) (declaration_at c.args.self.now.depth)) (λ old new r e. search rules)
