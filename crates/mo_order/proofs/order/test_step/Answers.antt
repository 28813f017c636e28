use Rattle.std.proofs.Common.{◌≡◌, ◌∷◌, ◌+◌, drop, arith}
use Rattle.std.proofs.lemmas.Grind.{common_steps}
use Rattle.mo_order.proofs.Looking.{ahead_more}
use Rattle.mo_order.proofs.order.test_step.Goals as goal

pub returns : goal.returns
returns c =
    let step = c.index-steps-index.result in
    let e : drop c.args.index c.args.steps.now ≡ step ∷ drop (c.args.index + 1) c.args.steps.now = grind (arith, common_steps) in
    ahead_more c.args.steps.now c.args.index step c.args.late.now c.enter.new.late c.args.least c.first_in_step.result c.requires.within e c.in_ok-enter.ensures c.first_in_step.ensures
