use Rattle.std.proofs.Common.{◌≡◌, length}
use Rattle.shareable_types.specs.Settled.{AreNothing}
use Rattle.shareable_types.proofs.rounds.nothing_needed.Given as goal

abbrev pub invariant-loop-i : goal.invariant-loop-i
invariant-loop-i l = record {
  many : length l.made.items ≡ l._i;
  nothing : AreNothing l.made.items;
}
