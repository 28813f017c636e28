use Rattle.std.proofs.Common.{◌≡◌, ◌++◌, take}
use Rattle.operation_lists.proofs.words.push_all.Given as goal

abbrev pub invariant-loop-op : goal.invariant-loop-op
invariant-loop-op l = l.list ≡ l.fn.list ++ take l.op-index l.more
