use Rattle.std.proofs.Common.{◌≡◌, ◌+◌}
use Rattle.page_store.specs.Pages.{differing_pages}
use Rattle.page_store.proofs.committed.Committed.changed.Given as goal

abbrev pub invariant-loop-page : goal.invariant-loop-page
invariant-loop-page l = l.count ≡ l.initial.count + differing_pages l.self.bytes l.now.bytes l.page
