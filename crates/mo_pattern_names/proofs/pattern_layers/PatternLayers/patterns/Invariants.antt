use Rattle.std.proofs.Common.{◌≡◌, ◌++◌, drop, map}
use Rattle.mo_pattern_names.specs.PatternNames.{in_pattern, bound_names, each_binder}
use Rattle.mo_pattern_names.proofs.pattern_layers.PatternLayers.patterns.Given as goal

abbrev pub invariant-loop-one : goal.invariant-loop-one
invariant-loop-one g l =
    (l.initial.found ++ each_binder (map in_pattern l.patterns) l.scope ≡ l.found ++ each_binder (map in_pattern (drop l.one-index l.patterns)) l.scope)
    × (l.initial.names ++ bound_names (map in_pattern l.patterns) ≡ l.names ++ bound_names (map in_pattern (drop l.one-index l.patterns)))
