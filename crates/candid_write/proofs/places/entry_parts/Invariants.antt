use Rattle.std.proofs.Common.{◌≡◌, map, take}
use Rattle.candid_write.proofs.places.entry_parts.Given as goal

abbrev pub invariant-loop-entry : goal.invariant-loop-entry
invariant-loop-entry l = l.made.items ≡ map (λ e. e.part) (take l.entry-index l.entries)
