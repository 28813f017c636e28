use Rattle.std.proofs.Common.{◌≡◌, map, take}
use Rattle.kernel_data.specs.Fields.{field_of}
use Rattle.kernel_data.proofs.data.field_values.Given as goal

abbrev pub invariant-loop-field : goal.invariant-loop-field
invariant-loop-field g l = record {
  made : l.made ≡ map (field_of l.layer.types.now l.initial.frames l.note.kind) (take l.field-index l.list);
  same : l.frames ≡ l.initial.frames;
}
