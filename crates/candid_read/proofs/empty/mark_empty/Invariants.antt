use Rattle.candid_read.proofs.Levels.{Levels}
use Rattle.candid_read.proofs.empty.mark_empty.Given as goal

abbrev pub invariant-loop : goal.invariant-loop
invariant-loop l = Levels l.shapes l.marks.items l.counter
