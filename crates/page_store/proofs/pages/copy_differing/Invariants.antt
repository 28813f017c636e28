use Rattle.std.proofs.Common.{◌≡◌, ◌*◌, take}
use Rattle.page_store.specs.Pages.{page_bytes}
use Rattle.page_store.proofs.pages.copy_differing.Given as goal

abbrev pub invariant-loop-page : goal.invariant-loop-page
invariant-loop-page l = take (l.page * page_bytes) l.to ≡ take (l.page * page_bytes) l.from
