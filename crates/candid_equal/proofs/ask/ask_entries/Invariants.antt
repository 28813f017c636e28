use Rattle.std.proofs.Common.{drop}
use Rattle.candid_equal.specs.Asks.{each_asks, entry_asks}
use Rattle.candid_equal.proofs.Grow.{Sofar}
use Rattle.candid_equal.proofs.ask.ask_entries.Given as goal

abbrev pub invariant-loop-i : goal.invariant-loop-i
invariant-loop-i l = Sofar (each_asks entry_asks l.wire l.declared) (each_asks entry_asks (drop l.i l.wire) (drop l.i l.declared)) l.fn.out.items l.out.items
