use Rattle.kernel_places.proofs.Marked.{marks_next}
use Rattle.kernel_places.proofs.marks.mark_all.Goals as goal

pub loop-index-preserved : goal.loop-index-preserved
loop-index-preserved c =
    marks_next c.args.steps.now c.args.place c.args.found.now c.loop-index.index-index c.args.marks.now c.args.late.now c.loop-index.marks c.loop-index.late c.mark_one.new.marks c.mark_one.new.late c.requires.some
    c.loop-index-test.true c.loop-index.invariant c.in_ok-mark_one.ensures
