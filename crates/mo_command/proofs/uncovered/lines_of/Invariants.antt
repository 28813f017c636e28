use Rattle.std.proofs.Common.{take}
use Rattle.mo_command.specs.Uncovered.{AreLines}
use Rattle.mo_command.proofs.uncovered.lines_of.Given as goal

abbrev pub invariant-loop-one : goal.invariant-loop-one
invariant-loop-one l = AreLines l.source l.tokens (take l.one-index l.found) l.made.items
