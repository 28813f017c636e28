use Rattle.kernel_places.proofs.Marked.{mark_then}
use Rattle.kernel_places.proofs.marks.mark_one.Goals as goal

pub returns : goal.returns
returns c =
    mark_then c.args.steps.now c.args.place c.push_name.result c.args.index c.args.marks.now c.args.late.now c.push_name.new.late c.requires.some c.if-index-marks.false c.if-marks-index-ne0.false c.push_name.ensures
