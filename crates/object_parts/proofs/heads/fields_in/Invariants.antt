use Rattle.std.proofs.Common.{take}
use Rattle.object_parts.specs.Found.{FieldsFound}
use Rattle.object_parts.proofs.heads.fields_in.Given as goal

abbrev pub invariant-loop-field : goal.invariant-loop-field
invariant-loop-field l = FieldsFound l.types (take l.field-index l.fields) l.made.items
