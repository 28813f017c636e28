use Rattle.std.proofs.Common.{◌≡◌, drop}
use Rattle.std.specs.Prelude.{is_some}
use Rattle.mo_values.specs.Messages.{labels, place}
use Rattle.arena_messages.proofs.fields.has_field.Given as goal

abbrev pub invariant-loop-field : goal.invariant-loop-field
invariant-loop-field l = is_some (place l.label (labels (drop l.field-index l.fields)) 0) ≡ is_some (place l.label (labels l.fields) 0)
