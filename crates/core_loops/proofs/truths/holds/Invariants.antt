use Rattle.std.proofs.Common.{◌≡◌}
use Rattle.typed_tree.specs.View.{expression}
use Rattle.core_loops.proofs.truths.holds.Given as goal

abbrev pub invariant-loop-steps : goal.invariant-loop-steps
invariant-loop-steps l = expression l.bare ≡ expression l.initial.bare
