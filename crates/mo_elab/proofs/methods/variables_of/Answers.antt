use Rattle.std.proofs.Common.{◌≤◌, length, arith}
use Rattle.mo_elab.proofs.Serving.{all_variables, more_variables}
use Rattle.mo_elab.proofs.methods.variables_of.Goals as goal

pub loop-variable-preserved : goal.loop-variable-preserved
loop-variable-preserved c =
    more_variables c.args.variables.now c.loop-variable.variable-index c.variable-item.result c.loop-variable.made c.push.new.self c.in_ok-known.known c.loop-variable-test.true c.variable-item.is c.in_ok-push.ensures.ok c.in_ok-known.ensures
    c.loop-variable.invariant

pub returns : goal.returns
returns c =
    let past : length c.args.variables.now ≤ c.loop-variable.variable-index = omega arith in
    all_variables c.args.variables.now c.loop-variable.variable-index c.loop-variable.made past c.loop-variable.invariant
