use Rattle.std.proofs.Common.{◌≡◌, ◌&&◌, ℕ, Bool, take}
use Rattle.shareable_types.specs.Sharing.{allowed}
use Rattle.shareable_types.specs.Parts.{fields_allowed}
use Rattle.shareable_types.proofs.forms.add_fields.Given as goal

abbrev pub invariant-loop-field : goal.invariant-loop-field
invariant-loop-field l = (x : ℕ → Bool) → allowed x l.needs ≡ (allowed x l.fn.needs && fields_allowed x l.known (take l.field-index l.fields))
