use Rattle.std.proofs.Common.{◌∙◌}
use Rattle.typed_patterns.proofs.Forms.{tag_made}
use Rattle.typed_patterns.proofs.making.tag.Goals as goal

pub returns : goal.returns
returns c = tag_made c.args.note c.made.result c.in_ok-name.name c.args.name.now (c.in_ok-name.ensures ∙ c.as_slice.ensures) c.made.ensures
