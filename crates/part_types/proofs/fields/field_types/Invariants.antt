use Rattle.std.proofs.Common.{◌≡◌, map, take}
use Rattle.mo_types.specs.Values.{types_of}
use Rattle.part_types.proofs.fields.field_types.Given as goal

abbrev pub invariant-loop-field : goal.invariant-loop-field
invariant-loop-field l = l.found.items ≡ take l.field-index (types_of (map (λ f. f.now) l.order))
