use Rattle.std.proofs.Common.{length}
use Rattle.play_script.proofs.ScriptLines.{HasRead}
use Rattle.play_script.proofs.script.read_script.Given as goal

abbrev pub invariant-loop-rest : goal.invariant-loop-rest
invariant-loop-rest l = HasRead l.modules l.text l.rest l.number l.events

abbrev pub decreases-loop-rest : goal.decreases-loop-rest
decreases-loop-rest l = length l.rest
