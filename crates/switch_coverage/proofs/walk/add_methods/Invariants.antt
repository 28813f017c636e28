use Rattle.std.proofs.Common.{◌≡◌, drop}
use Rattle.switch_coverage.specs.Found.{switches_in}
use Rattle.switch_coverage.specs.Switches.{in_methods}
use Rattle.switch_coverage.proofs.walk.add_methods.Given as goal

abbrev pub invariant-loop-method : goal.invariant-loop-method
invariant-loop-method l = in_methods (drop l.method-index l.methods) (switches_in l.found.items) ≡ in_methods l.methods (switches_in l.fn.found.items)
