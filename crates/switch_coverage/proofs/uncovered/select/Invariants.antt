use Rattle.std.proofs.Common.{take}
use Rattle.switch_coverage.specs.Found.{switches_in}
use Rattle.switch_coverage.specs.Uncovered.{Selects, all_missing}
use Rattle.switch_coverage.proofs.uncovered.select.Given as goal

abbrev pub invariant-loop-one : goal.invariant-loop-one
invariant-loop-one l = Selects l.types (switches_in (take l.one-index l.found)) (all_missing l.made.items)
