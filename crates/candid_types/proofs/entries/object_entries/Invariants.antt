use Rattle.std.proofs.Common.{◌≡◌, map, take}
use Rattle.mo_types.specs.Wire.{entry_of, map_entry}
use Rattle.candid_types.specs.Shapes.{ref_of}
use Rattle.candid_types.proofs.entries.object_entries.Given as goal

abbrev pub invariant-loop-field : goal.invariant-loop-field
invariant-loop-field l = map (map_entry ref_of) l.unsorted.items ≡ map entry_of (take l.field-index l.fields)
