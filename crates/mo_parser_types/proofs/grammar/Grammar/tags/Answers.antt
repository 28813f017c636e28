use Rattle.std.proofs.Common.{rules}
use Rattle.mo_parser_types.specs.Types.{tag, type_at}
use Rattle.mo_parser_types.proofs.grammar.Grammar.tags.Goals as goal

pub returns : goal.returns
returns g c = c.read_some_semicolons.ensures (tag (type_at c.args.self.now.depth)) (λ old new r e. search rules)
