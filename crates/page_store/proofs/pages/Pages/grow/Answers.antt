use Rattle.std.proofs.Common.{arith}
use Rattle.page_store.proofs.PageLemmas.{grown}
use Rattle.page_store.proofs.pages.Pages.grow.Goals as goal

pub returns-clause-grown : goal.returns-clause-grown
returns-clause-grown c =
    grown c.self.inside.limit _ _ c.args.by c.self.inside.bytes.items c.resize.new.self.items c.args.self.now
    c.self.inside.bytes.ok.0 (omega arith) c.self.view_is (rw c.unwrap.ensures at c.resize.ensures.items)
