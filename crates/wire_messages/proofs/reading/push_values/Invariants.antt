use Rattle.std.proofs.Common.{◌≡◌, ◌++◌, drop}
use Rattle.wire_messages.specs.ArgumentLists.{takes_ops}
use Rattle.wire_messages.proofs.reading.push_values.Given as goal

abbrev pub invariant-loop-wired : goal.invariant-loop-wired
invariant-loop-wired l = l.initial.ops ++ takes_ops l.first l.types ≡ l.ops ++ takes_ops l.first (drop l.wired-index l.types)
