use Rattle.std.proofs.Common.{refl}
use Rattle.stepper.proofs.upgrading.behind.Goals as goal

pub returns : goal.returns
returns c = (record { program = c.args.program; actor = c.args.over.actor }, refl, refl, refl)
