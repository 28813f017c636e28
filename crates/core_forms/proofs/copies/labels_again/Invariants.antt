use Rattle.std.proofs.Common.{◌≡◌, take}
use Rattle.core_forms.proofs.copies.labels_again.Given as goal

abbrev pub invariant-loop-label : goal.invariant-loop-label
invariant-loop-label l = l.made.items ≡ take l.label-index l.label-items
