use Rattle.std.proofs.Common.{◌≡◌, ◌-◌, map}
use Rattle.core_ir.specs.View.{exps, expression}
use Rattle.elaboration.specs.Scopes.{append}
use Rattle.elaboration.specs.Members.{names_of, nearest}
use Rattle.core_members.proofs.operands.names_and_parameters.Given as goal

abbrev pub invariant-loop-parameter : goal.invariant-loop-parameter
invariant-loop-parameter l =
    append (exps (map expression l.made)) (nearest l.parameter (l.parameters - l.parameter)) ≡ append (names_of l.names l.levels) (nearest 0 l.parameters)
