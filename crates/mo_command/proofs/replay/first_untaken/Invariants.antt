use Rattle.std.proofs.Common.{take}
use Rattle.std.specs.List.{AllByRecursion}
use Rattle.mo_command.specs.Replays.{IsTaken}
use Rattle.mo_command.proofs.replay.first_untaken.Given as goal

abbrev pub invariant-loop-index : goal.invariant-loop-index
invariant-loop-index l = AllByRecursion IsTaken (take l.index l.events)
