use Rattle.std.proofs.Common.{◌≡◌, ◌++◌, drop, map}
use Rattle.mo_pattern_names.specs.PatternNames.{in_pattern_field, bound_names, each_binder}
use Rattle.mo_pattern_names.proofs.pattern_layers.PatternLayers.fields.Given as goal

abbrev pub invariant-loop-one : goal.invariant-loop-one
invariant-loop-one g l =
    (l.initial.found ++ each_binder (map in_pattern_field l.fields) l.scope ≡ l.found ++ each_binder (map in_pattern_field (drop l.one-index l.fields)) l.scope)
    × (l.initial.names ++ bound_names (map in_pattern_field l.fields) ≡ l.names ++ bound_names (map in_pattern_field (drop l.one-index l.fields)))
