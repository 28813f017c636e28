use Rattle.std.proofs.Common.{ap, map, ◌+◌, ◌-◌, ◌∙◌, arith}
use Rattle.core_ir.specs.View.{exps, expression}
use Rattle.elaboration.specs.Scopes.{append}
use Rattle.elaboration.specs.Members as members
use Rattle.core_members.proofs.Listing.{all_parameters, next_parameter}
use Rattle.core_members.proofs.operands.names_and_parameters.Goals as goal

pub loop-parameter-preserved : goal.loop-parameter-preserved
loop-parameter-preserved c =
    let p = c.loop-parameter.parameter in
    ap (λ m. append (exps (map expression m)) (members.nearest (p + 1) (c.args.parameters - (p + 1)))) c.in_ok-push.ensures.ok
    ∙ next_parameter p c.args.parameters c.nearest.result c.loop-parameter.made c.loop-parameter-test.true c.nearest.ensures ∙ c.loop-parameter.invariant

pub returns : goal.returns
returns c = all_parameters c.loop-parameter.parameter c.args.parameters c.loop-parameter.made (omega (arith, c.loop-parameter-test.false)) ∙ c.loop-parameter.invariant
