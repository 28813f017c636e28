use Rattle.std.proofs.Common.{◌≡◌}
use Rattle.std.specs.Prelude.{reverse}
use Rattle.candid_read.specs.Whole.{left}
use Rattle.candid_read.proofs.todo.start.Given as goal

abbrev pub invariant-loop-of : goal.invariant-loop-of
invariant-loop-of l = left l.shapes (reverse l.goals.items) ≡ reverse l.yielded
