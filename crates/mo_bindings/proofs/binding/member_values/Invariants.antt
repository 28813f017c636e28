use Rattle.std.proofs.Common.{◌≡◌, ◌++◌, drop, map}
use Rattle.mo_bindings.specs.ExpressionNames.{in_member, member_values}
use Rattle.mo_bindings.proofs.binding.member_values.Given as goal

abbrev pub invariant-loop-one : goal.invariant-loop-one
invariant-loop-one l =
    l.initial.values ++ member_values (map in_member l.fields) ≡ l.values ++ member_values (map in_member (drop l.one-index l.fields))
