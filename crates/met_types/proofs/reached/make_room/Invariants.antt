use Rattle.std.proofs.Common.{◌+◌, ◌-◌, length}
use Rattle.met_types.specs.Reached.{SameNumbers}
use Rattle.met_types.proofs.reached.make_room.Given as goal

abbrev pub invariant-loop-numbers : goal.invariant-loop-numbers
invariant-loop-numbers l = SameNumbers l.initial.numbers.items l.numbers.items

abbrev pub decreases-loop-numbers : goal.decreases-loop-numbers
decreases-loop-numbers l = l.index + 1 - length l.numbers.items
