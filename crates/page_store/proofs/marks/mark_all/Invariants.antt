use Rattle.std.proofs.Common.{◌≡◌, ◌≤◌, length}
use Rattle.page_store.specs.Pages.{HasMarked}
use Rattle.page_store.proofs.marks.mark_all.Given as goal

abbrev pub invariant-loop-page : goal.invariant-loop-page
invariant-loop-page l = (length l.marks ≡ length l.fn.marks) × HasMarked l.first l.page l.fn.marks l.marks
