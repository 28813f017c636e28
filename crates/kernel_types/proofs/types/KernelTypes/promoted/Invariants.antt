use Rattle.kernel_types.proofs.Promoting.{Leads}
use Rattle.kernel_types.proofs.types.KernelTypes.promoted.Given as goal

abbrev pub invariant-loop-left : goal.invariant-loop-left
invariant-loop-left l = Leads l.self l.fn.kind l.left l.last

abbrev pub decreases-loop-left : goal.decreases-loop-left
decreases-loop-left l = l.left
