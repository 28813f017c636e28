use Rattle.std.proofs.Common.{◌≡◌, ◌++◌, drop}
use Rattle.mo_bindings.specs.ExpressionNames.{names_of_parameters}
use Rattle.mo_bindings.proofs.entering.names_of_parameters.Given as goal

abbrev pub invariant-loop-one : goal.invariant-loop-one
invariant-loop-one l = names_of_parameters l.parameters ≡ l.names ++ names_of_parameters (drop l.one-index l.parameters)
