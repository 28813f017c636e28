use Rattle.std.proofs.Common.{arith}
use Rattle.wasm_layout.proofs.Bounds.{within_more, turn_pass, turn_steps}
use Rattle.wasm_layout.proofs.body.lay_ops.Goals as goal

pub loop-op-preserved : goal.loop-op-preserved
loop-op-preserved c =
    let a = c.args.arities.now in
    let ops = c.args.ops.now in
    let i = c.loop-op.op-index in
    rw (c.in_ok-lay_op.ensures.pass, c.in_ok-lay_op.ensures.steps) (record {
      ends = turn_pass a c.args.body ops i _ (omega arith) c.loop-op.pass _ c.loop-op.invariant.ends;
      laid = turn_steps a c.args.body ops i _ (omega arith) c.loop-op.pass _ _ c.loop-op.invariant.laid;
      within = within_more a c.args.body _ c.args.pass.now.place i c.loop-op.pass c.loop-op.invariant.within;
    })
