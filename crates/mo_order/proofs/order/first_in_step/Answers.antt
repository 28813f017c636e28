use Rattle.std.proofs.Common.{◌≡◌, [], arith}
use Rattle.std.proofs.lemmas.Grind.{common_steps}
use Rattle.mo_order.proofs.Looking.{late_evaluated}
use Rattle.mo_order.proofs.order.first_in_step.Goals as goal

pub returns : goal.returns
returns c =
    let e : c.args.step.now.functions ≡ [] = grind (arith, common_steps) in
    late_evaluated c.args.late.now c.args.step.now c.args.least c.first_late.result e (rw c.occurs.ensures at c.first_late.ensures)
