use Rattle.page_store.proofs.MarkLemmas.{Copying}
use Rattle.page_store.proofs.pages.copy_marked_pages.Given as goal

abbrev pub invariant-loop-page : goal.invariant-loop-page
invariant-loop-page l = Copying l.page l.from l.fn.to l.to
