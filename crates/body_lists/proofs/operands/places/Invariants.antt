use Rattle.std.proofs.Common.{◌≡◌, ◌++◌, drop}
use Rattle.flat_emission.specs.Emission as emission
use Rattle.body_lists.specs.Known.{here_of, link_of, plan_of}
use Rattle.body_lists.proofs.operands.places.Given as goal

abbrev pub invariant-loop-operand : goal.invariant-loop-operand
invariant-loop-operand l =
    l.made.items ++ emission.places (plan_of l.known) (link_of l.known) (here_of l.here) l.at (drop l.operand-index l.operands) ≡ emission.places (plan_of l.known) (link_of l.known) (here_of l.here) l.first l.operands
