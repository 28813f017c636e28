use Rattle.std.proofs.Common.{rules}
use Rattle.mo_parser_patterns.specs.Patterns.{field, pattern_at}
use Rattle.mo_parser_patterns.proofs.grammar.Grammar.fields.Goals as goal

pub returns : goal.returns
returns g c = c.read_semicolons.ensures (field (pattern_at c.args.self.now.depth)) (λ old new r e. search rules)
