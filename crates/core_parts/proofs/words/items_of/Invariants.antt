use Rattle.std.proofs.Common.{◌≡◌}
use Rattle.core_parts.proofs.words.items_of.Given as goal

abbrev pub invariant-loop-operand : goal.invariant-loop-operand
invariant-loop-operand l = l.made ≡ l.yielded
