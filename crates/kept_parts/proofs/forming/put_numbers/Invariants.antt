use Rattle.std.proofs.Common.{◌≡◌, ◌++◌, drop}
use Rattle.kept_forms.specs.Parts.{numbers}
use Rattle.kept_parts.proofs.forming.put_numbers.Given as goal

abbrev pub invariant-loop-byte : goal.invariant-loop-byte
invariant-loop-byte l = l.found.items ++ numbers (drop l.byte-index l.bytes) ≡ l.initial.found.items ++ numbers l.bytes
