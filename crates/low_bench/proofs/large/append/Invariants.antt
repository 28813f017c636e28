use Rattle.std.proofs.Common.{◌≡◌, ◌++◌, take}
use Rattle.low_bench.proofs.large.append.Given as goal

abbrev pub invariant-loop-op : goal.invariant-loop-op
invariant-loop-op l = l.out ≡ l.initial.out ++ take l.op-index l.ops
