use Rattle.std.proofs.Common.{◌≡◌, take}
use Rattle.type_terms.proofs.form.copy_fields.Given as goal

abbrev pub invariant-loop-field : goal.invariant-loop-field
invariant-loop-field l = l.made.items ≡ take l.field-index l.fields
