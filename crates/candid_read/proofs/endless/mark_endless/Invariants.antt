use Rattle.candid_read.proofs.Endings.{Upto}
use Rattle.candid_read.proofs.endless.mark_endless.Given as goal

abbrev pub invariant-loop-of : goal.invariant-loop-of
invariant-loop-of l = Upto l.shapes l.marks.items l.of
