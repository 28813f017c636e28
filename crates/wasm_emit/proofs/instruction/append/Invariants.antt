use Rattle.std.proofs.Common.{◌≡◌, ◌++◌, take}
use Rattle.wasm_emit.proofs.instruction.append.Given as goal

abbrev pub invariant-loop-op : goal.invariant-loop-op
invariant-loop-op l = l.out ≡ l.initial.out ++ take l.op-index l.ops
