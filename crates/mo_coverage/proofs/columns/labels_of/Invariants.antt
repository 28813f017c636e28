use Rattle.std.proofs.Common.{◌≡◌, take}
use Rattle.mo_values.specs.Messages.{labels}
use Rattle.mo_coverage.proofs.columns.labels_of.Given as goal

abbrev pub invariant-loop-field : goal.invariant-loop-field
invariant-loop-field l = l.made ≡ labels (take l.field-index l.fields)
