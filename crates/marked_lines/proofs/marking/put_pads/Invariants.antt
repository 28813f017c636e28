use Rattle.std.proofs.Common.{◌≡◌, ◌++◌, drop}
use Rattle.std.specs.List.{flat_map}
use Rattle.marked_lines.specs.Marks.{pad}
use Rattle.marked_lines.proofs.marking.put_pads.Given as goal

abbrev pub invariant-loop-byte : goal.invariant-loop-byte
invariant-loop-byte l = l.initial.out ++ flat_map pad l.front ≡ l.out ++ flat_map pad (drop l.byte-index l.front)
