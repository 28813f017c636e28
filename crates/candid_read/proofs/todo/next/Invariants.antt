use Rattle.std.proofs.Common.{◌≡◌, vec_len}
use Rattle.std.specs.Prelude.{reverse}
use Rattle.candid_read.specs.Whole.{left}
use Rattle.candid_read.proofs.todo.next.Given as goal

abbrev pub decreases-loop-goal : goal.decreases-loop-goal
decreases-loop-goal l = vec_len l.goals

abbrev pub invariant-loop-goal : goal.invariant-loop-goal
invariant-loop-goal l = left l.shapes (reverse l.goals.items) ≡ left l.shapes (reverse l.fn.goals.items)
