use Rattle.std.proofs.Common.{◌≡◌, ◌++◌, drop, map}
use Rattle.mo_scopes.specs.Findings.{each}
use Rattle.mo_bindings.specs.ExpressionNames.{in_case}
use Rattle.mo_name_walk.proofs.layers.Layers.cases.Given as goal

abbrev pub invariant-loop-one : goal.invariant-loop-one
invariant-loop-one g l =
    (l.initial.found ++ each (map in_case l.cases) l.initial.scope ≡ l.found ++ each (map in_case (drop l.one-index l.cases)) l.initial.scope)
    × (l.scope ≡ l.initial.scope)
