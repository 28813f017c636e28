use Rattle.std.proofs.Common.{◌≡◌, ◌&&◌, ℕ, Bool, take}
use Rattle.shareable_types.specs.Sharing.{allowed}
use Rattle.shareable_types.specs.Parts.{parts_allowed}
use Rattle.shareable_types.proofs.forms.add_parts.Given as goal

abbrev pub invariant-loop-part : goal.invariant-loop-part
invariant-loop-part l = (x : ℕ → Bool) → allowed x l.needs ≡ (allowed x l.fn.needs && parts_allowed x l.known (take l.part-index l.parts))
