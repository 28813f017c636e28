use Rattle.std.proofs.Common.{◌≡◌, ◌++◌, drop}
use Rattle.wire_messages.specs.Lists.{values_ops}
use Rattle.wire_messages.proofs.replies.push_values.Given as goal

abbrev pub invariant-loop-wired : goal.invariant-loop-wired
invariant-loop-wired l = l.initial.ops ++ values_ops l.first l.types ≡ l.ops ++ values_ops l.first (drop l.wired-index l.types)
