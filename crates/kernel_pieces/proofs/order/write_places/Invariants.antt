use Rattle.std.proofs.Common.{◌≡◌, Bool}
use Rattle.kernel_pieces.specs.Ordered.{GoesOn, from_here}
use Rattle.kernel_pieces.proofs.order.write_places.Given as goal

abbrev pub invariant-loop-index : goal.invariant-loop-index
invariant-loop-index g l =
    (v : Bool) → GoesOn v l.count l.declarations → from_here l.lists.layer.types.now v l.declarations 0 l.initial.steps l.initial.frames ≡ from_here l.lists.layer.types.now v l.declarations l.index l.steps l.frames
