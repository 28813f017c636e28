use Rattle.std.proofs.Common.{true, false, sym, ◌∙◌, arith, rules}
use Rattle.std.proofs.lemmas.List.{take_all, get_or_default}
use Rattle.page_store.proofs.MarkLemmas.{copied_page, kept_page}
use Rattle.page_store.proofs.pages.copy_marked_pages.Goals as goal
use Rattle.page_store.proofs.pages.copy_marked_pages.Goals.{then-marks-page, else-marks-page}

pub loop-page-init : goal.loop-page-init
loop-page-init c = search rules

pub loop-page-preserved : goal.loop-page-preserved
loop-page-preserved c =
    elim c.if-marks-page.branch [
      | then-marks-page w ↦ rw (w.to-is, w.copy_from_slice.ensures.after) (copied_page c.loop-page.page _ c.args.from.now c.args.to.now c.loop-page.to c.loop-page.invariant (omega arith) (omega arith) (omega arith))
      | else-marks-page w ↦ rw w.to-is (kept_page c.loop-page.page c.args.from.now c.args.to.now c.loop-page.to c.args.marks.now c.loop-page.invariant c.requires.marked (get_or_default c.args.marks.now c.loop-page.page true false (omega arith) ∙ w.if-marks-page.false))
    ]

pub returns : goal.returns
returns c =
    sym (take_all _ c.loop-page.to (omega arith)) ∙ c.loop-page.invariant.front ∙ take_all _ c.args.from.now (omega arith)
