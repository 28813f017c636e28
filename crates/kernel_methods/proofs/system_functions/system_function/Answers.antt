use Rattle.value_scopes.specs.Values.{noted}
use Rattle.kernel_methods.proofs.Found.{system_is}
use Rattle.kernel_methods.proofs.system_functions.system_function.Goals as goal

pub returns-clause-made : goal.returns-clause-made
returns-clause-made g c =
    let s = c.args.layer.now.types.now in
    system_is s c.args.frames.now c.args.body.now c.new.result c.in_ok-nodes.nodes c.new-2.result c.in_ok-made.made c.new.ensures (c.in_ok-nodes.ensures (noted s.forms)) c.new-2.ensures c.in_ok-made.ensures.made
