use Rattle.std.proofs.Common.{◌≡◌, ◌++◌}
use Rattle.low_ir.specs.Flat.{flat}
use Rattle.low_bench.specs.Large.{parts}
use Rattle.low_bench.proofs.large.body.Given as goal

abbrev pub invariant-loop-left : goal.invariant-loop-left
invariant-loop-left l = flat (parts l.parts) ≡ l.body ++ flat (parts l.left)

abbrev pub decreases-loop-left : goal.decreases-loop-left
decreases-loop-left l = l.left
