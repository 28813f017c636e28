use Rattle.std.proofs.Common.{List, subst}
use Rattle.std.proofs.lemmas.List.{take_all}
use Rattle.mo_names.specs.Order.{Step, Misplaced}
use Rattle.mo_order.specs.Least.{LeastOf}
use Rattle.mo_order.proofs.Looking.{misplaced_none, misplaced_more}
use Rattle.mo_order.proofs.order.first_in_lists.Goals as goal

pub loop-one-init : goal.loop-one-init
loop-one-init c = misplaced_none

pub loop-one-preserved : goal.loop-one-preserved
loop-one-preserved c =
    misplaced_more c.args.lists.now c.loop-one.one-index c.one-item.result c.loop-one.least c.in_ok-first_in_list.field-0 c.earlier-least.result c.loop-one-test.true c.one-item.is
    c.loop-one.invariant (rw c.as_slice.ensures at c.in_ok-first_in_list.ensures) c.earlier-least.ensures

pub returns : goal.returns
returns c = subst (λ (t : List (List Step)). LeastOf (Misplaced t) c.loop-one.least) (take_all c.loop-one.one-index c.args.lists.now c.loop-one-test.false) c.loop-one.invariant
