use Rattle.std.proofs.Common.{drop}
use Rattle.judging.proofs.FirstAbove.{Left}
use Rattle.judging.proofs.asking.is_above_all.Given as goal

abbrev pub invariant-loop-one : goal.invariant-loop-one
invariant-loop-one l = Left l.types l.kind l.kinds (drop l.one-index l.kinds)
