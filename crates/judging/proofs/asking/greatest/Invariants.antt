use Rattle.std.proofs.Common.{drop}
use Rattle.judging.proofs.FirstAbove.{Tried}
use Rattle.judging.proofs.asking.greatest.Given as goal

abbrev pub invariant-loop-one : goal.invariant-loop-one
invariant-loop-one l = Tried l.types l.condition l.place l.kinds (drop l.one-index l.kinds)
