use Rattle.std.proofs.Common.{◌≡◌, ◌++◌}
use Rattle.core_members.proofs.calls.joined.Given as goal

abbrev pub invariant-loop-operand : goal.invariant-loop-operand
invariant-loop-operand l = l.all ≡ l.fn.first ++ l.yielded
