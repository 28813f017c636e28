use Rattle.std.proofs.Common.{rules}
use Rattle.page_store.proofs.PageLemmas.{page_at-range}
use Rattle.page_store.proofs.pages.is_same_page.Goals as goal

pub returns : goal.returns
returns c = rw (← page_at-range c.args.a.now c.args.page, ← page_at-range c.args.b.now c.args.page) (search rules)
