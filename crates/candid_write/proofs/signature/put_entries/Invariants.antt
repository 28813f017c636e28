use Rattle.std.proofs.Common.{◌≡◌, ◌++◌, take}
use Rattle.std.specs.List.{flat_map}
use Rattle.candid_write.specs.Signature.{entry_numbers}
use Rattle.candid_write.proofs.signature.put_entries.Given as goal

abbrev pub invariant-loop-entry : goal.invariant-loop-entry
invariant-loop-entry l = l.out.items ≡ l.initial.out.items ++ flat_map (entry_numbers l.classes) (take l.entry-index l.entries)
