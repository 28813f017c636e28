use Rattle.std.proofs.Common.{◌∙◌, ap}
use Rattle.desugaring.specs.Frames.{Frame}
use Rattle.kernel_parts.specs.Views.{tree_of}
use Rattle.kernel_parts.proofs.Looping.{pushed}
use Rattle.kernel_parts.proofs.layer.Layer.each.Goals as goal

pub loop-item-preserved : goal.loop-item-preserved
loop-item-preserved g c = record {
  made = pushed (tree_of c.args.self.now.types.now c.args.frames.now) c.args.items.now c.loop-item.item-index c.item-item.result c.loop-item.made c.push.new.self c.in_ok-part.part c.loop-item-test.true c.item-item.is c.loop-item.invariant.made
      (c.in_ok-part.ensures.made ∙ ap (λ (f : Frame). tree_of c.args.self.now.types.now f c.item-item.result) c.loop-item.invariant.same) c.in_ok-push.ensures.ok;
  same = c.in_ok-part.ensures.same ∙ c.loop-item.invariant.same;
}
