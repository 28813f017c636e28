use Rattle.std.proofs.Common.{◌≡◌, map, take}
use Rattle.mo_types.specs.Wire.{map_entry}
use Rattle.candid_keep.specs.Refs.{table_ref}
use Rattle.candid_keep.proofs.wires.entries.Given as goal

abbrev pub invariant-loop-entry : goal.invariant-loop-entry
invariant-loop-entry l = l.made ≡ map (map_entry table_ref) (take l.entry-index l.numbers)
