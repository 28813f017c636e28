use Rattle.std.proofs.Common.{take}
use Rattle.kernel_places.specs.Marking.{Marks}
use Rattle.kernel_places.proofs.marks.mark_all.Given as goal

abbrev pub invariant-loop-index : goal.invariant-loop-index
invariant-loop-index l = Marks l.steps l.place (take l.index-index l.found) l.initial.marks l.initial.late l.marks l.late
