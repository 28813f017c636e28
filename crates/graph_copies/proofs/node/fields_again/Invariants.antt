use Rattle.std.proofs.Common.{◌≡◌, take}
use Rattle.graph_copies.proofs.node.fields_again.Given as goal

abbrev pub invariant-loop-field : goal.invariant-loop-field
invariant-loop-field l = l.made.items ≡ take l.field-index l.field-items
