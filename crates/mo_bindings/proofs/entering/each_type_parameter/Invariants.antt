use Rattle.std.proofs.Common.{◌≡◌, ◌++◌, drop}
use Rattle.mo_bindings.specs.ExpressionNames.{each_type_parameter}
use Rattle.mo_bindings.proofs.entering.each_type_parameter.Given as goal

abbrev pub invariant-loop-one : goal.invariant-loop-one
invariant-loop-one l =
    l.initial.found ++ each_type_parameter l.parameters l.scope ≡ l.found ++ each_type_parameter (drop l.one-index l.parameters) l.scope
