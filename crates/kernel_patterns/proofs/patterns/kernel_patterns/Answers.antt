use Rattle.kernel_patterns.proofs.Forms.{each_made}
use Rattle.kernel_patterns.proofs.patterns.kernel_patterns.Goals as goal

pub returns : goal.returns
returns c = each_made c.args.types.now c.args.patterns.now c.patterns_within.result c.patterns_within.ensures
