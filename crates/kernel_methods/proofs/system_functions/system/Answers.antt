use Rattle.value_scopes.specs.Values.{noted}
use Rattle.kernel_methods.proofs.Found.{system_found, system_missing}
use Rattle.kernel_methods.proofs.system_functions.system.Goals as goal

pub returns-in-None-clause-made : goal.returns-in-None-clause-made
returns-in-None-clause-made g c =
    let s = c.args.layer.now.types.now in
    system_missing s c.args.frames.now c.args.name.now c.args.fields.now (c.in-None.ensures (noted s.forms))

pub returns-in_ok-made-in-Some-clause-made : goal.returns-in_ok-made-in-Some-clause-made
returns-in_ok-made-in-Some-clause-made g c =
    let s = c.args.layer.now.types.now in
    system_found s c.args.frames.now c.args.name.now c.args.fields.now c.in-Some.body.now c.in_ok-made-in-Some.made (c.in-Some.ensures (noted s.forms)) c.in_ok-made-in-Some.ensures.made
