use Rattle.std.proofs.Common.{◌≡◌, ◌++◌, drop}
use Rattle.wire_messages.specs.Lists.{header_ops}
use Rattle.wire_messages.proofs.replies.push_header.Given as goal

abbrev pub invariant-loop-byte : goal.invariant-loop-byte
invariant-loop-byte l = (l.initial.ops ++ header_ops l.header 0 ≡ l.ops ++ header_ops (drop l.byte-index l.header) l.place) × (l.place ≡ l.byte-index)
