use Rattle.std.proofs.Common.{◌∙◌, ◌++◌, ap, get_or, map, refl}
use Rattle.std.specs.Prelude.{slice_get}
use Rattle.desugaring.specs.Frames.{Frame}
use Rattle.kernel_declarations.specs.Becoming.{made_in}
use Rattle.kernel_pieces.specs.Ordered.{function_at}
use Rattle.kernel_pieces.proofs.Grouped.{one_more}
use Rattle.kernel_pieces.proofs.groups.group_functions.Goals as goal

pub loop-index-preserved : goal.loop-index-preserved
loop-index-preserved g c =
    let s = c.args.lists.now.layer.types.now in
    record {
      made = one_more s (made_in c.args.frames.now) c.args.declarations.now c.args.indexes.now c.loop-index.index-index _ c.loop-index.made c.push_at.new.made c.loop-index-test.true refl c.loop-index.invariant.made
          (c.in_ok-push_at.ensures.made ∙ ap (λ (f : Frame). c.loop-index.made ++ map (made_in f) (function_at s (slice_get c.args.declarations.now (get_or c.args.indexes.now c.loop-index.index-index 0)))) c.loop-index.invariant.same);
      same = c.in_ok-push_at.ensures.same ∙ c.loop-index.invariant.same;
    }
