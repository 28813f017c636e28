use Rattle.std.proofs.Common.{◌≡◌, ◌+◌, ◌*◌, map, take}
use Rattle.kernel_patterns.specs.Written.{field_of, pattern_of}
use Rattle.kernel_patterns.proofs.patterns.+within.Given as goal

abbrev pub decreases-pattern_within : goal.decreases-pattern_within
decreases-pattern_within l = 4 * l.depth

abbrev pub decreases-patterns_within : goal.decreases-patterns_within
decreases-patterns_within l = 4 * l.depth + 2

abbrev pub decreases-field_within : goal.decreases-field_within
decreases-field_within l = 4 * l.depth + 1

abbrev pub decreases-fields_within : goal.decreases-fields_within
decreases-fields_within l = 4 * l.depth + 2

abbrev pub invariant-patterns_within-loop-pattern : goal.invariant-patterns_within-loop-pattern
invariant-patterns_within-loop-pattern l = l.made ≡ map (pattern_of l.types) (take l.pattern-index l.patterns)

abbrev pub invariant-fields_within-loop-field : goal.invariant-fields_within-loop-field
invariant-fields_within-loop-field l = l.made ≡ map (field_of l.types) (take l.field-index l.fields)
