use Rattle.std.proofs.Common.{◌++◌, ◌∙◌, ap}
use Rattle.mo_order.proofs.Growing.{entered}
use Rattle.mo_order.proofs.reach.enter.Goals as goal

pub returns : goal.returns
returns c = λ targets.
    entered c.close.result c.args.steps.now c.args.late.now c.push_copies.new.self c.close.new.late c.args.step.now.defines c.len-from.result c.len-from.ensures
    (c.in_ok-push_copies.ensures ∙ ap (λ t. c.args.late.now ++ t) c.defines.ensures) c.close.ensures targets
