use Rattle.std.proofs.Common.{drop}
use Rattle.candid_equal.specs.Asks.{each_asks, one}
use Rattle.candid_equal.proofs.Grow.{Sofar}
use Rattle.candid_equal.proofs.ask.ask_parts.Given as goal

abbrev pub invariant-loop-i : goal.invariant-loop-i
invariant-loop-i l = Sofar (each_asks one l.wire l.declared) (each_asks one (drop l.i l.wire) (drop l.i l.declared)) l.fn.out.items l.out.items
