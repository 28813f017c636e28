use Rattle.std.proofs.Common.{◌≡◌, ◌++◌, drop}
use Rattle.pattern_rules.proofs.SwitchParts.{kinds}
use Rattle.pattern_rules.proofs.arms.kinds_of.Given as goal

abbrev pub invariant-loop-i : goal.invariant-loop-i
invariant-loop-i l = l.made.items ++ kinds (drop l.i l.cases) ≡ kinds l.cases
