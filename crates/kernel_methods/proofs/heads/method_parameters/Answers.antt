use Rattle.kernel_methods.proofs.Typed.{parameters_are}
use Rattle.kernel_methods.proofs.heads.method_parameters.Goals as goal

pub returns : goal.returns
returns c = parameters_are c.args.types.now c.args.kind c.in_ok-head.head.now c.in_ok-head.ensures c.requires c.copy_parameters.result c.copy_parameters.ensures
