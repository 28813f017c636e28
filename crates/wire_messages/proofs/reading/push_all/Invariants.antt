use Rattle.std.proofs.Common.{◌≡◌, ◌++◌, drop}
use Rattle.wire_messages.proofs.reading.push_all.Given as goal

abbrev pub invariant-loop-op : goal.invariant-loop-op
invariant-loop-op l = l.initial.ops ++ l.more ≡ l.ops ++ drop l.op-index l.more
