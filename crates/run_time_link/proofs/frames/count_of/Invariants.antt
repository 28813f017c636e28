use Rattle.std.proofs.Common.{◌≡◌, ◌≤◌, drop}
use Rattle.run_time_link.specs.Counting.{counted_all, no_count}
use Rattle.run_time_link.proofs.frames.count_of.Given as goal

abbrev pub invariant-loop-op : goal.invariant-loop-op
invariant-loop-op l = (counted_all l.ops no_count ≡ counted_all (drop l.op-index l.ops) l.count) × ((l.count.arguments ≤ l.op-index) × (l.count.inside ≤ l.op-index))
