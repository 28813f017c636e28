use Rattle.std.proofs.Common.{◌≡◌, map, take}
use Rattle.mo_types.specs.Wire.{numbered, map_entry}
use Rattle.candid_types.specs.Shapes.{ref_of}
use Rattle.candid_types.proofs.entries.tuple_entries.Given as goal

abbrev pub invariant-loop-i : goal.invariant-loop-i
invariant-loop-i l = map (map_entry ref_of) l.made.items ≡ numbered 0 (take l.i l.parts)
