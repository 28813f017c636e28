use Rattle.std.proofs.Common.{refl, arith, ◌∙◌}
use Rattle.std.proofs.lemmas.List.{length-set}
use Rattle.page_store.proofs.MarkLemmas.{none_marked, one_marked}
use Rattle.page_store.proofs.marks.mark_all.Goals as goal

pub loop-page-init : goal.loop-page-init
loop-page-init c = (refl, none_marked c.args.first c.args.marks.now)

pub loop-page-preserved : goal.loop-page-preserved
loop-page-preserved c = (
  length-set c.loop-page.marks c.loop-page.page _ ∙ c.loop-page.invariant.0,
  one_marked c.args.first c.loop-page.page c.args.marks.now c.loop-page.marks c.loop-page.invariant.1 (omega arith),
)
