use Rattle.std.proofs.Common.{◌≡◌, drop, fold}
use Rattle.mo_types.specs.Layout.{mix_field}
use Rattle.mo_types.proofs.layout.mix_fields.Given as goal

abbrev pub invariant-loop-field : goal.invariant-loop-field
invariant-loop-field l = fold mix_field l.mixed (drop l.field-index l.fields) ≡ fold mix_field l.fn.digest l.fields
