use Rattle.std.proofs.Common.{◌≡◌}
use Rattle.candid_read.specs.Empty.{marks_after}
use Rattle.candid_read.proofs.empty.marks_after.Given as goal

abbrev pub invariant-loop-of : goal.invariant-loop-of
invariant-loop-of l = l.more.items ≡ marks_after l.shapes l.marks l.of
