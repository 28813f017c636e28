use Rattle.std.proofs.Common.{◌≡◌, ◌++◌, drop, map}
use Rattle.mo_bindings.specs.ExpressionNames.{in_member, member_types}
use Rattle.mo_bindings.proofs.binding.member_types.Given as goal

abbrev pub invariant-loop-one : goal.invariant-loop-one
invariant-loop-one l =
    l.initial.types ++ member_types (map in_member l.fields) ≡ l.types ++ member_types (map in_member (drop l.one-index l.fields))
