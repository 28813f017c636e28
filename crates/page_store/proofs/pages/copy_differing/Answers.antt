use Rattle.std.proofs.Common.{◌≡◌, rules, ◌∙◌, sym, arith}
use Rattle.std.proofs.lemmas.List.{take_all}
use Rattle.page_store.specs.Pages.{page_at}
use Rattle.page_store.proofs.PageLemmas.{take_page, take_written}
use Rattle.page_store.proofs.pages.copy_differing.Goals as goal
use Rattle.page_store.proofs.pages.copy_differing.Goals.{then-not-is_same_page, else-not-is_same_page}

pub loop-page-preserved : goal.loop-page-preserved
loop-page-preserved c =
    elim c.if-not-is_same_page.branch [
      | then-not-is_same_page w ↦ rw (w.to-is, w.copy_from_slice.ensures.after) (take_written c.loop-page.to c.args.from.now c.loop-page.page _ c.loop-page.invariant (omega arith) (omega arith))
      | else-not-is_same_page w ↦
          (let same : page_at c.args.from.now c.loop-page.page ≡ page_at c.loop-page.to c.loop-page.page = search rules in
          rw w.to-is (take_page c.loop-page.to c.args.from.now c.loop-page.page c.loop-page.invariant (sym same)))
    ]

pub returns : goal.returns
returns c =
    sym (take_all _ c.loop-page.to (omega arith)) ∙ c.loop-page.invariant ∙ take_all _ c.args.from.now (omega arith)
