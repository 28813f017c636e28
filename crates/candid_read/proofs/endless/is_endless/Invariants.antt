use Rattle.candid_read.proofs.Endings.{Search}
use Rattle.candid_read.proofs.endless.is_endless.Given as goal

abbrev pub invariant-loop-next : goal.invariant-loop-next
invariant-loop-next l = Search l.shapes l.of l.seen.keys l.next
