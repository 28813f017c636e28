use Rattle.std.proofs.Common.{◌≡◌, ◌++◌, drop}
use Rattle.low_ir.specs.Flat.{flat}
use Rattle.low_ir.specs.Tree.{Code}
use Rattle.flat_emission.specs.Emission as emission
use Rattle.body_lists.specs.Known.{here_of, link_of, plan_of}
use Rattle.body_lists.proofs.operands.push_fetches.Given as goal

abbrev pub invariant-loop-operand : goal.invariant-loop-operand
invariant-loop-operand l =
    (rest : Code) → l.list ++ flat (emission.fetches (plan_of l.known) (link_of l.known) (here_of l.here) l.at (drop l.operand-index l.operands) rest) ≡ l.fn.list ++ flat (emission.fetches (plan_of l.known) (link_of l.known) (here_of l.here) l.first l.operands rest)
