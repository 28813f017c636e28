use Rattle.object_parts.proofs.WrittenFields.{Looking}
use Rattle.object_parts.proofs.fields.has_field.Given as goal

abbrev pub invariant-loop-field : goal.invariant-loop-field
invariant-loop-field l = Looking l.label l.written l.field-index
