use Rattle.std.proofs.Common.{rules}
use Rattle.mo_parser_patterns.specs.Patterns.{a_field, fields}
use Rattle.mo_parser_patterns.proofs.parameters.read_pattern_fields.Goals as goal

pub returns : goal.returns
unfolding fields
returns c = c.read_semicolons.ensures a_field (λ old new r e. search rules)
