use Rattle.std.proofs.Common.{◌≡◌, ◌++◌, drop}
use Rattle.wire_messages.specs.ArgumentLists.{types_ops}
use Rattle.wire_messages.proofs.reading.push_types.Given as goal

abbrev pub invariant-loop-wired : goal.invariant-loop-wired
invariant-loop-wired l = l.initial.ops ++ types_ops l.types ≡ l.ops ++ types_ops (drop l.wired-index l.types)
