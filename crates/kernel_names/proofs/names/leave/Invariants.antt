use Rattle.std.proofs.Common.{◌≡◌, take, length}
use Rattle.kernel_names.proofs.names.leave.Given as goal

abbrev pub invariant-loop-bound : goal.invariant-loop-bound
invariant-loop-bound l = take l.len l.bound ≡ take l.len l.initial.bound

abbrev pub decreases-loop-bound : goal.decreases-loop-bound
decreases-loop-bound l = length l.bound
