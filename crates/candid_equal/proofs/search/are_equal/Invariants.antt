use Rattle.candid_equal.proofs.Closed.{Search}
use Rattle.candid_equal.proofs.search.are_equal.Given as goal

abbrev pub invariant-loop-next : goal.invariant-loop-next
invariant-loop-next l = Search l.table l.shapes l.pairs l.seen.keys l.next
