use Rattle.stepper.specs.Standing.{AreOwned}
use Rattle.meaning_player.proofs.sources.programs.Given as goal

abbrev pub invariant-loop-number : goal.invariant-loop-number
invariant-loop-number g l = AreOwned l.made.items
