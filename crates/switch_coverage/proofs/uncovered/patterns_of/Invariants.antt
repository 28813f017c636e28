use Rattle.std.proofs.Common.{◌≡◌, map, take}
use Rattle.typed_tree.specs.PatternView.{pattern}
use Rattle.switch_coverage.specs.Found.{patterns_in}
use Rattle.switch_coverage.proofs.uncovered.patterns_of.Given as goal

abbrev pub invariant-loop-case : goal.invariant-loop-case
invariant-loop-case l = map (λ p. pattern p.now) l.made.items ≡ patterns_in (take l.case-index l.cases)
