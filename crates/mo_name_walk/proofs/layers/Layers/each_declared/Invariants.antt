use Rattle.std.proofs.Common.{◌≡◌, ◌++◌, drop, map}
use Rattle.mo_bindings.specs.ExpressionNames.{in_declaration, each_declared}
use Rattle.mo_name_walk.proofs.layers.Layers.each_declared.Given as goal

abbrev pub invariant-loop-one : goal.invariant-loop-one
invariant-loop-one g l =
    (l.initial.found ++ each_declared (map in_declaration l.declarations) l.initial.scope ≡ l.found ++ each_declared (map in_declaration (drop l.one-index l.declarations)) l.initial.scope)
    × (l.scope ≡ l.initial.scope)
