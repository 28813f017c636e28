use Rattle.std.proofs.Common.{◌≡◌, drop}
use Rattle.mo_values.specs.Messages.{under, labels, types}
use Rattle.arena_messages.proofs.fields.type_under.Given as goal

abbrev pub invariant-loop-field : goal.invariant-loop-field
invariant-loop-field l = under l.label (labels (drop l.field-index l.fields)) (types (drop l.field-index l.fields)) ≡ under l.label (labels l.fields) (types l.fields)
