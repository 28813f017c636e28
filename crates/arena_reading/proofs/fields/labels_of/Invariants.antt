use Rattle.std.proofs.Common.{◌≡◌, map, take}
use Rattle.mo_values.specs.Messages.{labels}
use Rattle.arena_reading.proofs.fields.labels_of.Given as goal

abbrev pub invariant-loop-field : goal.invariant-loop-field
invariant-loop-field l = l.names ≡ take l.field-index (labels (map (λ f. f.now) l.order))
