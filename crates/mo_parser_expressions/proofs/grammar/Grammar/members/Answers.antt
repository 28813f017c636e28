use Rattle.std.proofs.Common.{rules}
use Rattle.mo_parser_expressions.specs.Expressions.{member, members, expression_at, declaration_at}
use Rattle.mo_parser_expressions.proofs.grammar.Grammar.members.Goals as goal

pub returns : goal.returns
unfolding members
returns g c = c.read_semicolons.ensures (member (expression_at c.args.self.now.depth) (declaration_at c.args.self.now.depth)) (λ old new r e. search rules)
