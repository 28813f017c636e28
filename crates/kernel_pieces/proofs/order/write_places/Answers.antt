use Rattle.std.proofs.Common.{◌∙◌, Bool}
use Rattle.kernel_pieces.specs.Ordered.{GoesOn}
use Rattle.kernel_pieces.proofs.Ordering.{goes_before}
use Rattle.kernel_pieces.proofs.order.write_places.Goals as goal

pub loop-index-preserved : goal.loop-index-preserved
loop-index-preserved g c = λ (v : Bool) (h : GoesOn v c.args.count c.args.declarations.now).
    c.loop-index.invariant v h ∙ c.in_ok-write_place.ensures v (goes_before c.args.declarations.now v c.loop-index.index c.args.count c.loop-index-test.true h)
