use Rattle.typed_patterns.proofs.Forms.{constant_made}
use Rattle.typed_patterns.proofs.making.constant.Goals as goal

pub returns : goal.returns
returns c = constant_made c.args.note c.made.result c.args.minus c.in_ok-literal.literal c.args.literal.now c.in_ok-literal.ensures c.made.ensures
