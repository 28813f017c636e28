use Rattle.std.proofs.Common.{◌≡◌, drop}
use Rattle.mo_types.specs.Sub.{find}
use Rattle.shape_patterns.proofs.written.find.Given as goal

abbrev pub invariant-loop-field : goal.invariant-loop-field
invariant-loop-field l = find l.label l.fields ≡ find l.label (drop l.field-index l.fields)
