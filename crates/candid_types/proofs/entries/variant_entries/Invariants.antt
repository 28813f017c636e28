use Rattle.std.proofs.Common.{◌≡◌, map, take}
use Rattle.mo_types.specs.Graph.{head_at}
use Rattle.mo_types.specs.Wire.{tag_of, map_entry}
use Rattle.candid_types.specs.Shapes.{ref_of}
use Rattle.candid_types.proofs.entries.variant_entries.Given as goal

abbrev pub invariant-loop-tag : goal.invariant-loop-tag
invariant-loop-tag l = map (map_entry ref_of) l.unsorted.items ≡ map (tag_of (head_at l.types)) (take l.tag-index l.tags)
