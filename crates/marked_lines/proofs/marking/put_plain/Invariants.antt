use Rattle.std.proofs.Common.{◌≡◌, ◌++◌, drop, map}
use Rattle.marked_lines.specs.Marks.{plain}
use Rattle.marked_lines.proofs.marking.put_plain.Given as goal

abbrev pub invariant-loop-byte : goal.invariant-loop-byte
invariant-loop-byte l = l.initial.out ++ map plain l.part ≡ l.out ++ map plain (drop l.byte-index l.part)
