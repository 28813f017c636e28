use Rattle.std.proofs.Common.{◌≡◌, drop, fold}
use Rattle.type_terms.specs.Layouts.{mix_field}
use Rattle.type_terms.proofs.layout.mix_fields.Given as goal

abbrev pub invariant-loop-field : goal.invariant-loop-field
invariant-loop-field l = fold mix_field l.mixed (drop l.field-index l.fields) ≡ fold mix_field l.fn.digest l.fields
