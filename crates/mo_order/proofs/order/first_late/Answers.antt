use Rattle.std.proofs.Common.{subst}
use Rattle.std.proofs.lemmas.List.{take_all}
use Rattle.mo_scopes.specs.Findings.{Names}
use Rattle.mo_order.specs.Early.{LateAt}
use Rattle.mo_order.specs.Least.{LeastOf, OneOf}
use Rattle.mo_order.proofs.Looking.{late_none, late_more}
use Rattle.mo_order.proofs.order.first_late.Goals as goal

pub loop-name-init : goal.loop-name-init
loop-name-init c = late_none c.args.late.now c.args.least

pub loop-name-preserved : goal.loop-name-preserved
loop-name-preserved c =
    late_more c.args.late.now c.args.occurs.now c.loop-name.name-index c.name-item.result c.args.least c.loop-name.first c.late_place.result c.earlier-first.result
    c.loop-name-test.true c.name-item.is c.loop-name.invariant c.late_place.ensures c.earlier-first.ensures

pub returns : goal.returns
returns c = subst (λ (t : Names). LeastOf (OneOf c.args.least (LateAt c.args.late.now t)) c.loop-name.first) (take_all c.loop-name.name-index c.args.occurs.now c.loop-name-test.false) c.loop-name.invariant
