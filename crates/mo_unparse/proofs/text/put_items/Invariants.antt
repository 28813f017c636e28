use Rattle.std.proofs.Common.{◌≡◌, ◌++◌, drop}
use Rattle.std.specs.List.{flat_map}
use Rattle.mo_unparse.specs.Spelling.{shown}
use Rattle.mo_unparse.proofs.text.put_items.Given as goal

abbrev pub invariant-loop-byte : goal.invariant-loop-byte
invariant-loop-byte l = l.initial.out ++ flat_map shown l.text ≡ l.out ++ flat_map shown (drop l.byte-index l.text)
