use Rattle.candid_types.proofs.Orders.{methods_in_order}
use Rattle.candid_types.proofs.entries.service_methods.Goals as goal

pub returns : goal.returns
returns c = methods_in_order _ c.args.methods.now c.loop-method.method-index c.loop-method.invariant c.loop-method-test.false c.sort_methods.result c.sort_methods.ensures
