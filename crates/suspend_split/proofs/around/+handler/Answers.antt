use Rattle.std.proofs.Common.{◌≡◌, ◌∙◌, ap, subst, IfOk}
use Rattle.core_laws.specs.Around.{farther, handler}
use Rattle.suspend_split.proofs.Stacks.{at_last}
use Rattle.suspend_split.proofs.around.+handler.Goals as goal

pub returns-in_ok-handler-in-Other : goal.returns-in_ok-handler-in-Other
returns-in_ok-handler-in-Other t c =
    subst (λ w. IfOk c.farther.result (λ out. out ≡ w)) (ap farther c.in_ok-handler-in-Other.ensures ∙ at_last handler c.args.kinds.now c.in-Some.rest.now c.in-Some.last.now _ c.in-Some.ensures.cases.0 c.in-Other.is) c.farther.ensures

pub returns-in_ok-handler-in-LabelHere : goal.returns-in_ok-handler-in-LabelHere
returns-in_ok-handler-in-LabelHere t c =
    subst (λ w. IfOk c.farther-in-LabelHere.result (λ out. out ≡ w)) (ap farther c.in_ok-handler-in-LabelHere.ensures ∙ at_last handler c.args.kinds.now c.in-Some.rest.now c.in-Some.last.now _ c.in-Some.ensures.cases.0 c.in-LabelHere.is) c.farther-in-LabelHere.ensures

pub returns-in-LabelAt : goal.returns-in-LabelAt
returns-in-LabelAt t c = subst (λ w. IfOk c.handler-in-LabelAt.result (λ out. out ≡ w)) (at_last handler c.args.kinds.now c.in-Some.rest.now c.in-Some.last.now _ c.in-Some.ensures.cases.0 c.in-LabelAt.is) c.handler-in-LabelAt.ensures

pub returns-in-HandlerHere : goal.returns-in-HandlerHere
returns-in-HandlerHere t c = at_last handler c.args.kinds.now c.in-Some.rest.now c.in-Some.last.now _ c.in-Some.ensures.cases.0 c.in-HandlerHere.is

pub returns-in-HandlerAt : goal.returns-in-HandlerAt
returns-in-HandlerAt t c = at_last handler c.args.kinds.now c.in-Some.rest.now c.in-Some.last.now _ c.in-Some.ensures.cases.0 c.in-HandlerAt.is
