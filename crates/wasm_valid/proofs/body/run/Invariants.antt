use Rattle.std.proofs.Common.{◌≡◌, [], drop, None}
use Rattle.wasm_valid.specs.Body.{fresh, run}
use Rattle.wasm_valid.proofs.body.run.Given as goal

abbrev pub invariant-loop-op : goal.invariant-loop-op
invariant-loop-op l = run l.within l.signatures l.locals l.outcome l.ops None [] fresh ≡ run l.within l.signatures l.locals l.outcome (drop l.op-index l.ops) l.table l.blocks l.operands
