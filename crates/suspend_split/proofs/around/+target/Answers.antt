use Rattle.std.proofs.Common.{◌≡◌, ◌∙◌, ◌-◌, suc, [], ap, sym, arith}
use Rattle.core_laws.specs.Around.{target}
use Rattle.suspend_split.specs.Kinds.{stacked}
use Rattle.suspend_split.proofs.Stacks.{at_last}
use Rattle.suspend_split.proofs.around.+target.Goals as goal

pub returns-in-Other : goal.returns-in-Other
returns-in-Other t c = c.target.ensures ∙ at_last (λ ls. target ls c.args.labels) c.args.kinds.now c.in-Some.rest.now c.in-Some.last.now _ c.in-Some.ensures.cases.0 c.in-Other.is

pub returns-in-HandlerHere : goal.returns-in-HandlerHere
returns-in-HandlerHere t c = c.target-in-HandlerHere.ensures ∙ at_last (λ ls. target ls c.args.labels) c.args.kinds.now c.in-Some.rest.now c.in-Some.last.now _ c.in-Some.ensures.cases.0 c.in-HandlerHere.is

pub returns-in-HandlerAt : goal.returns-in-HandlerAt
returns-in-HandlerAt t c = c.target-in-HandlerAt.ensures ∙ at_last (λ ls. target ls c.args.labels) c.args.kinds.now c.in-Some.rest.now c.in-Some.last.now _ c.in-Some.ensures.cases.0 c.in-HandlerAt.is

pub returns-then-labels-eq0 : goal.returns-then-labels-eq0
returns-then-labels-eq0 t c = at_last (λ ls. target ls 0) c.args.kinds.now c.in-Some.rest.now c.in-Some.last.now _ c.in-Some.ensures.cases.0 c.in-LabelHere.is ∙ ap (target (stacked [] c.args.kinds.now)) (sym c.if-labels-eq0.true)

pub returns-else-labels-eq0 : goal.returns-else-labels-eq0
returns-else-labels-eq0 t c =
    c.target-in-LabelHere.ensures ∙ at_last (λ ls. target ls (suc (c.args.labels - 1))) c.args.kinds.now c.in-Some.rest.now c.in-Some.last.now _ c.in-Some.ensures.cases.0 c.in-LabelHere.is ∙ ap (target (stacked [] c.args.kinds.now)) (let e : suc (c.args.labels - 1) ≡ c.args.labels = omega arith in e)

pub returns-then-labels-eq0-2 : goal.returns-then-labels-eq0-2
returns-then-labels-eq0-2 t c = at_last (λ ls. target ls 0) c.args.kinds.now c.in-Some.rest.now c.in-Some.last.now _ c.in-Some.ensures.cases.0 c.in-LabelAt.is ∙ ap (target (stacked [] c.args.kinds.now)) (sym c.if-labels-eq0-2.true)

pub returns-else-labels-eq0-2 : goal.returns-else-labels-eq0-2
returns-else-labels-eq0-2 t c =
    c.target-in-LabelAt.ensures ∙ at_last (λ ls. target ls (suc (c.args.labels - 1))) c.args.kinds.now c.in-Some.rest.now c.in-Some.last.now _ c.in-Some.ensures.cases.0 c.in-LabelAt.is ∙ ap (target (stacked [] c.args.kinds.now)) (let e : suc (c.args.labels - 1) ≡ c.args.labels = omega arith in e)
