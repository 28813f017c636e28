use Rattle.std.proofs.Common.{◌≡◌}
use Rattle.mo_bench.proofs.machine.method.Given as goal

abbrev pub invariant-loop : goal.invariant-loop
invariant-loop l = l.instance.kept ≡ l.fn.instance.kept
