use Rattle.std.proofs.Common.{◌≡◌, map, take}
use Rattle.mo_types.specs.Wire.{refs}
use Rattle.candid_types.specs.Shapes.{ref_of}
use Rattle.candid_types.proofs.numbering.numbers.Given as goal

abbrev pub invariant-loop-id : goal.invariant-loop-id
invariant-loop-id l = map ref_of l.made.items ≡ refs (take l.id-index l.ids)
