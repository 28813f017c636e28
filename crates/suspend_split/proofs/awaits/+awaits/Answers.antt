use Rattle.std.proofs.Common.{◌∙◌, ◌+◌, ◌||◌, ap, sym, map, drop}
use Rattle.std.proofs.lemmas.List.{drop_more}
use Rattle.core_ir.specs.declared.expression.Binding.{Binding}
use Rattle.core_ir.specs.Expressions.{Exp}
use Rattle.core_ir.specs.View.{binding, block, expression}
use Rattle.core_laws.specs.Split.{awaits}
use Rattle.suspend_split.proofs.ExpressionViews.{block_is}
use Rattle.suspend_split.proofs.Truths.{or_true, or_false}
use Rattle.suspend_split.proofs.awaits.+awaits.Goals as goal

pub any_binding_awaits-returns-then-binding_awaits : goal.any_binding_awaits-returns-then-binding_awaits
any_binding_awaits-returns-then-binding_awaits t c e =
    let bs = c.args.bindings.now in
    let i = c.loop-binding.binding-index in
    let rest : Exp = block (map binding (drop (i + 1) bs)) e in
    sym (c.loop-binding.invariant e)
    ∙ ap (λ bs. awaits (block (map binding bs) e)) (drop_more bs i c.binding-item.result c.loop-binding-test.true)
    ∙ ap (λ (b : Binding). awaits (binding b rest)) (sym c.binding-item.is)
    ∙ c.binding_awaits.ensures rest ∙ ap (λ r. awaits rest || r) c.if-binding_awaits.true ∙ or_true (awaits rest) ∙ sym (or_true (awaits e))

pub any_binding_awaits-loop-binding-preserved : goal.any_binding_awaits-loop-binding-preserved
any_binding_awaits-loop-binding-preserved t c e =
    let bs = c.args.bindings.now in
    let i = c.loop-binding.binding-index in
    let rest : Exp = block (map binding (drop (i + 1) bs)) e in
    sym (ap (λ bs. awaits (block (map binding bs) e)) (drop_more bs i c.binding-item.result c.loop-binding-test.true)
    ∙ ap (λ (b : Binding). awaits (binding b rest)) (sym c.binding-item.is)
    ∙ c.binding_awaits.ensures rest ∙ ap (λ r. awaits rest || r) c.if-binding_awaits.false ∙ or_false (awaits rest))
    ∙ c.loop-binding.invariant e

pub expression_awaits-returns-then-any_binding_awaits : goal.expression_awaits-returns-then-any_binding_awaits
expression_awaits-returns-then-any_binding_awaits t c =
    let e : Exp = expression c.in-Block.value in
    c.if-any_binding_awaits.true ∙ sym (or_true (awaits e)) ∙ sym (c.if-any_binding_awaits.ensures e)
    ∙ ap (λ bs. awaits (block (map binding bs) e)) c.as_slice-in-Block.ensures ∙ ap awaits (sym (ap expression c.in-Block.is ∙ block_is c.in-Block.bindings c.in-Block.value))
