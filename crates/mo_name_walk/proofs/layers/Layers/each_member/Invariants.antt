use Rattle.std.proofs.Common.{◌≡◌, ◌++◌, drop, map}
use Rattle.mo_bindings.specs.ExpressionNames.{in_member, each_member}
use Rattle.mo_name_walk.proofs.layers.Layers.each_member.Given as goal

abbrev pub invariant-loop-one : goal.invariant-loop-one
invariant-loop-one g l =
    (l.initial.found ++ each_member (map in_member l.fields) l.initial.scope ≡ l.found ++ each_member (map in_member (drop l.one-index l.fields)) l.initial.scope)
    × (l.scope ≡ l.initial.scope)
