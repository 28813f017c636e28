use Rattle.kernel_methods.proofs.Typed.{results_are}
use Rattle.kernel_methods.proofs.heads.method_results.Goals as goal

pub returns : goal.returns
returns c = results_are c.args.types.now c.args.kind c.in_ok-head.head.now c.in_ok-head.ensures c.requires c.copy_results.result c.copy_results.ensures
