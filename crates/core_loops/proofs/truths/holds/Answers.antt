use Rattle.std.proofs.Common.{ap, sym, ◌∙◌}
use Rattle.typed_tree.specs.declared.expression.Form.TheVariants as form
use Rattle.elaboration.specs.Elaboration.{is_true}
use Rattle.core_calls.proofs.Held.{empty_block, expression_is, is_empty, not_empty}
use Rattle.core_loops.proofs.Always.{block_is_false}
use Rattle.core_loops.proofs.truths.holds.Goals as goal

pub returns-then-not-is_empty : goal.returns-then-not-is_empty
returns-then-not-is_empty c =
    let some = not_empty c.in-Block.steps (sym c.is_empty.ensures ∙ c.if-not-is_empty.true) in
    sym (ap is_true (sym c.loop-steps.invariant ∙ expression_is c.loop-steps.bare.now (form.Block c.in-Block.steps c.in-Block.value) (sym c.get.ensures ∙ c.in-Block.is)) ∙ block_is_false c.in-Block.steps c.in-Block.value some)

pub loop-steps-preserved : goal.loop-steps-preserved
loop-steps-preserved c =
    let none = is_empty c.in-Block.steps (sym c.is_empty.ensures ∙ c.if-not-is_empty.false) in
    sym (empty_block c.in-Block.steps c.in-Block.value none) ∙ (sym (expression_is c.loop-steps.bare.now (form.Block c.in-Block.steps c.in-Block.value) (sym c.get.ensures ∙ c.in-Block.is)) ∙ c.loop-steps.invariant)
