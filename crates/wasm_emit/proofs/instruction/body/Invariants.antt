use Rattle.std.proofs.Common.{◌≡◌, ◌++◌, drop}
use Rattle.wasm_emit.specs.Emit.{all_ops}
use Rattle.wasm_emit.proofs.instruction.body.Given as goal

abbrev pub invariant-loop-op : goal.invariant-loop-op
invariant-loop-op l = all_ops l.ops ≡ l.body ++ all_ops (drop l.op-index l.ops)
