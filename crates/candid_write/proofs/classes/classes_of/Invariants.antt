use Rattle.std.proofs.Common.{◌-◌, length}
use Rattle.candid_write.proofs.ClassLemmas.{Rounds}
use Rattle.candid_write.proofs.classes.classes_of.Given as goal

abbrev pub invariant-loop-classes : goal.invariant-loop-classes
invariant-loop-classes l = Rounds l.shapes l.classes.items l.count

abbrev pub decreases-loop-classes : goal.decreases-loop-classes
decreases-loop-classes l = length l.shapes - l.count
