use Rattle.std.proofs.Common.{[], take}
use Rattle.arena_saving.specs.Saving.{AreHeld}
use Rattle.arena_saving.proofs.held.held_in.Given as goal

abbrev pub invariant-loop-cell : goal.invariant-loop-cell
invariant-loop-cell l = AreHeld l.arena l.store (take l.cell-index l.cells) [] l.found.items
