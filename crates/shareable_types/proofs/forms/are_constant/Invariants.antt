use Rattle.std.proofs.Common.{◌≡◌, true, take}
use Rattle.shareable_types.specs.Parts.{constant_fields}
use Rattle.shareable_types.proofs.forms.are_constant.Given as goal

abbrev pub invariant-loop-field : goal.invariant-loop-field
invariant-loop-field l = constant_fields (take l.field-index l.fields) ≡ true
