use Rattle.std.proofs.Common.{◌∙◌}
use Rattle.candid_header.proofs.Names.{before_is}
use Rattle.candid_header.proofs.list.is_before.Goals as goal

pub returns : goal.returns
returns c = c.lt.ensures ∙ before_is c.args.left.now c.args.right.now
