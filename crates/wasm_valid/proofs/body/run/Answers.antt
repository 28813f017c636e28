use Rattle.std.proofs.Common.{◌∙◌, rules}
use Rattle.wasm_valid.proofs.Turns.{turn, carry}
use Rattle.wasm_valid.proofs.body.run.Goals as goal

pub returns-in_err-table : goal.returns-in_err-table
returns-in_err-table c =
    carry _ _ _ c.step.result c.in_err-table.field-0.0 c.from_residual.result
    (c.loop-op.invariant ∙ turn c.args.within.now c.args.signatures.now c.args.locals.now c.args.outcome c.loop-op.table c.loop-op.blocks c.loop-op.operands c.args.ops.now c.loop-op.op-index _ c.loop-op-test.true)
    (c.step.ensures _) (search rules) (search rules)

pub loop-op-preserved : goal.loop-op-preserved
loop-op-preserved c = c.loop-op.invariant ∙ turn c.args.within.now c.args.signatures.now c.args.locals.now c.args.outcome c.loop-op.table c.loop-op.blocks c.loop-op.operands c.args.ops.now c.loop-op.op-index _ c.loop-op-test.true ∙ c.in_ok-table.ensures _
