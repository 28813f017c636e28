use Rattle.kernel_outside.proofs.Adding.{variable_is}
use Rattle.kernel_outside.proofs.stable.variable.Goals as goal

pub returns : goal.returns
returns c = variable_is c.args.types.now c.args.frames.now c.args.kind c.args.name.now c.in_ok-copy.copy c.in_ok-of_type.of_type c.find-found.result.index c.in_ok-copy.ensures c.in_ok-of_type.ensures c.find-found.ensures.index
