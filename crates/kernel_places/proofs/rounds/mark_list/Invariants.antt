use Rattle.std.proofs.Common.{length}
use Rattle.kernel_places.specs.Marking.{Round}
use Rattle.kernel_places.proofs.rounds.mark_list.Given as goal

abbrev pub invariant-loop-index : goal.invariant-loop-index
invariant-loop-index l = Round l.steps (length l.steps) l.initial.marks l.initial.late → Round l.steps l.index l.marks l.late
