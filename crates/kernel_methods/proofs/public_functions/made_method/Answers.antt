use Rattle.kernel_methods.proofs.Adding.{method_is}
use Rattle.kernel_methods.proofs.public_functions.made_method.Goals as goal

pub returns : goal.returns
returns c =
    method_is c.args.types.now c.args.kind c.args.context.now c.args.name.now c.in_ok-name.name c.in_ok-context.context c.in_ok-parameters.parameters c.in_ok-results.results c.args.function c.in_ok-name.ensures c.in_ok-context.ensures c.in_ok-parameters.ensures c.in_ok-results.ensures
