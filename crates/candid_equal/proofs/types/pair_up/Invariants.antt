use Rattle.std.proofs.Common.{◌≡◌, ◌++◌, drop}
use Rattle.candid_equal.specs.Types.{pairs_of}
use Rattle.candid_equal.proofs.types.pair_up.Given as goal

abbrev pub invariant-loop-i : goal.invariant-loop-i
invariant-loop-i l = l.pairs.items ++ pairs_of (drop l.i l.wire) (drop l.i l.ids) ≡ pairs_of l.wire l.ids
