use Rattle.std.proofs.Common.{◌≡◌, map, take}
use Rattle.part_types.proofs.fields.in_order.Given as goal

abbrev pub invariant-loop-field : goal.invariant-loop-field
invariant-loop-field l = map (λ f. f.now) l.order.items ≡ take l.field-index l.fields
