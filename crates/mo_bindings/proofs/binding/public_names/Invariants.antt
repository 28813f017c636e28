use Rattle.std.proofs.Common.{◌≡◌, ◌++◌, drop, map}
use Rattle.mo_bindings.specs.ExpressionNames.{in_member, public_names}
use Rattle.mo_bindings.proofs.binding.public_names.Given as goal

abbrev pub invariant-loop-one : goal.invariant-loop-one
invariant-loop-one l =
    l.initial.names ++ public_names (map in_member l.fields) ≡ l.names ++ public_names (map in_member (drop l.one-index l.fields))
