use Rattle.std.proofs.Common.{length, ◌-◌}
use Rattle.shareable_types.specs.Settled.{Knows}
use Rattle.shareable_types.proofs.forms.know.Given as goal

abbrev pub invariant-loop-known : goal.invariant-loop-known
invariant-loop-known l = Knows l.any l.definitions l.needed l.terms l.known.items

abbrev pub decreases-loop-known : goal.decreases-loop-known
decreases-loop-known l = l.number - length l.known.items
