use Rattle.std.proofs.Common.{◌≡◌, ◌++◌, drop}
use Rattle.wasm_layout.specs.Passes.{IsWithin, advances, steps_of}
use Rattle.wasm_layout.proofs.body.lay_ops.Given as goal

abbrev pub invariant-loop-op : goal.invariant-loop-op
invariant-loop-op l = record {
  ends : advances l.arities l.body (drop l.op-index l.ops) l.pass ≡ advances l.arities l.body l.ops l.fn.pass;
  laid : l.steps.items ++ steps_of l.arities l.body (drop l.op-index l.ops) l.pass ≡ l.fn.steps.items ++ steps_of l.arities l.body l.ops l.fn.pass;
  within : IsWithin l.fn.pass.place l.op-index l.pass;
}
