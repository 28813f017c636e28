use Rattle.std.proofs.Common.{◌≡◌}
use Rattle.mo_bench.proofs.machine.methods.Given as goal

abbrev pub invariant-loop-export : goal.invariant-loop-export
invariant-loop-export l = l.instance.kept ≡ l.fn.instance.kept
