use Rattle.std.proofs.Common.{◌≡◌, ◌++◌, drop, map}
use Rattle.mo_pattern_names.specs.PatternNames.{in_pattern, in_pattern_field, bound_names}
use Rattle.mo_bindings.proofs.binding.+binding.Given as goal

abbrev pub invariant-names_of_patterns-loop-one : goal.invariant-names_of_patterns-loop-one
invariant-names_of_patterns-loop-one l =
    (l.initial.names ++ bound_names (map in_pattern l.patterns) ≡ l.names ++ bound_names (map in_pattern (drop l.one-index l.patterns)))

abbrev pub invariant-names_of_fields-loop-one : goal.invariant-names_of_fields-loop-one
invariant-names_of_fields-loop-one l =
    (l.initial.names ++ bound_names (map in_pattern_field l.fields) ≡ l.names ++ bound_names (map in_pattern_field (drop l.one-index l.fields)))
