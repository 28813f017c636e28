use Rattle.std.proofs.Common.{rules}
use Rattle.mo_parser_programs.specs.Programs.{a_field, actor_fields}
use Rattle.mo_parser.proofs.fields.actor_fields.Goals as goal

pub returns : goal.returns
unfolding actor_fields
returns c = c.read_semicolons.ensures a_field (λ old new r e. search rules)
