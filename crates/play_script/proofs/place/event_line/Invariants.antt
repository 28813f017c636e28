use Rattle.std.proofs.Common.{length}
use Rattle.play_script.proofs.EventLines.{HasWalked}
use Rattle.play_script.proofs.place.event_line.Given as goal

abbrev pub invariant-loop-rest : goal.invariant-loop-rest
invariant-loop-rest l = HasWalked l.text l.rest l.number l.index l.left

abbrev pub decreases-loop-rest : goal.decreases-loop-rest
decreases-loop-rest l = length l.rest
