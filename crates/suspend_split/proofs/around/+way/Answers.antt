use Rattle.std.proofs.Common.{◌≡◌, ◌∙◌, ◌-◌, suc, [], ap, sym, subst, IfOk, arith}
use Rattle.core_laws.specs.Around.{out_by, way}
use Rattle.suspend_split.specs.Kinds.{stacked}
use Rattle.suspend_split.proofs.Stacks.{at_last}
use Rattle.suspend_split.proofs.around.+way.Goals as goal

pub returns-in_ok-way-in-Other : goal.returns-in_ok-way-in-Other
returns-in_ok-way-in-Other t c =
    subst (λ w. IfOk c.out_by.result (λ out. out ≡ w)) (ap out_by c.in_ok-way-in-Other.ensures ∙ at_last (λ ls. way ls c.args.labels) c.args.kinds.now c.in-Some.rest.now c.in-Some.last.now _ c.in-Some.ensures.cases.0 c.in-Other.is) c.out_by.ensures

pub returns-in_ok-way-in-HandlerHere : goal.returns-in_ok-way-in-HandlerHere
returns-in_ok-way-in-HandlerHere t c =
    subst (λ w. IfOk c.out_by-in-HandlerHere.result (λ out. out ≡ w)) (ap out_by c.in_ok-way-in-HandlerHere.ensures ∙ at_last (λ ls. way ls c.args.labels) c.args.kinds.now c.in-Some.rest.now c.in-Some.last.now _ c.in-Some.ensures.cases.0 c.in-HandlerHere.is) c.out_by-in-HandlerHere.ensures

pub returns-in-HandlerAt : goal.returns-in-HandlerAt
returns-in-HandlerAt t c = subst (λ w. IfOk c.way-in-HandlerAt.result (λ out. out ≡ w)) (at_last (λ ls. way ls c.args.labels) c.args.kinds.now c.in-Some.rest.now c.in-Some.last.now _ c.in-Some.ensures.cases.0 c.in-HandlerAt.is) c.way-in-HandlerAt.ensures

pub returns-then-labels-eq0 : goal.returns-then-labels-eq0
returns-then-labels-eq0 t c = at_last (λ ls. way ls 0) c.args.kinds.now c.in-Some.rest.now c.in-Some.last.now _ c.in-Some.ensures.cases.0 c.in-LabelHere.is ∙ ap (way (stacked [] c.args.kinds.now)) (sym c.if-labels-eq0.true)

pub returns-in_ok-way-in-LabelHere : goal.returns-in_ok-way-in-LabelHere
returns-in_ok-way-in-LabelHere t c =
    subst (λ w. IfOk c.out_by-in-LabelHere.result (λ out. out ≡ w)) (ap out_by c.in_ok-way-in-LabelHere.ensures ∙ at_last (λ ls. way ls (suc (c.args.labels - 1))) c.args.kinds.now c.in-Some.rest.now c.in-Some.last.now _ c.in-Some.ensures.cases.0 c.in-LabelHere.is
    ∙ ap (way (stacked [] c.args.kinds.now)) (let e : suc (c.args.labels - 1) ≡ c.args.labels = omega arith in e)) c.out_by-in-LabelHere.ensures

pub returns-then-labels-eq0-2 : goal.returns-then-labels-eq0-2
returns-then-labels-eq0-2 t c = at_last (λ ls. way ls 0) c.args.kinds.now c.in-Some.rest.now c.in-Some.last.now _ c.in-Some.ensures.cases.0 c.in-LabelAt.is ∙ ap (way (stacked [] c.args.kinds.now)) (sym c.if-labels-eq0-2.true)

pub returns-else-labels-eq0-2 : goal.returns-else-labels-eq0-2
returns-else-labels-eq0-2 t c =
    subst (λ w. IfOk c.way-in-LabelAt.result (λ out. out ≡ w)) (at_last (λ ls. way ls (suc (c.args.labels - 1))) c.args.kinds.now c.in-Some.rest.now c.in-Some.last.now _ c.in-Some.ensures.cases.0 c.in-LabelAt.is
    ∙ ap (way (stacked [] c.args.kinds.now)) (let e : suc (c.args.labels - 1) ≡ c.args.labels = omega arith in e)) c.way-in-LabelAt.ensures
