use Rattle.std.proofs.Common.{refl}
use Rattle.operator_rules.proofs.Comparisons.{subsumed_is}
use Rattle.operator_rules.proofs.comparing.subsumed.Goals as goal

pub returns : goal.returns
returns c = subsumed_is _ c.args.of c.args.kind refl c.in_ok-form.ensures
