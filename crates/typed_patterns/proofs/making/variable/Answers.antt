use Rattle.std.proofs.Common.{◌∙◌}
use Rattle.typed_patterns.proofs.Forms.{variable_made}
use Rattle.typed_patterns.proofs.making.variable.Goals as goal

pub returns : goal.returns
returns c = variable_made c.args.note c.made.result c.in_ok-name.name c.args.name.now (c.in_ok-name.ensures ∙ c.as_slice.ensures) c.made.ensures
