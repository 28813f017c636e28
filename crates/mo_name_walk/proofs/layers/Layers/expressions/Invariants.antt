use Rattle.std.proofs.Common.{◌≡◌, ◌++◌, drop, map}
use Rattle.mo_bindings.specs.ExpressionNames.{in_expression, each_whole}
use Rattle.mo_name_walk.proofs.layers.Layers.expressions.Given as goal

abbrev pub invariant-loop-one : goal.invariant-loop-one
invariant-loop-one g l =
    (l.initial.found ++ each_whole (map in_expression l.items) l.initial.scope ≡ l.found ++ each_whole (map in_expression (drop l.one-index l.items)) l.initial.scope)
    × (l.scope ≡ l.initial.scope)
