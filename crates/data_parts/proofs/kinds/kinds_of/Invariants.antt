use Rattle.std.proofs.Common.{◌≡◌, map, take}
use Rattle.data_parts.proofs.kinds.kinds_of.Given as goal

abbrev pub invariant-loop-item : goal.invariant-loop-item
invariant-loop-item l = l.made ≡ map (λ a. a.note.kind) (take l.item-index l.items)
