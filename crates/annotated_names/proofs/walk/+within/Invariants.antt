use Rattle.std.proofs.Common.{◌≡◌, ◌+◌, ◌*◌, drop}
use Rattle.annotated_names.proofs.Annotated.{all_of, fields_of}
use Rattle.annotated_names.proofs.walk.+within.Given as goal

abbrev pub decreases-annotated_within : goal.decreases-annotated_within
decreases-annotated_within l = 2 * l.depth

abbrev pub decreases-part_within : goal.decreases-part_within
decreases-part_within l = 2 * l.depth + 1

abbrev pub decreases-each_within : goal.decreases-each_within
decreases-each_within l = 2 * l.depth + 1

abbrev pub decreases-fields_within : goal.decreases-fields_within
decreases-fields_within l = 2 * l.depth + 1

abbrev pub invariant-each_within-loop-pattern : goal.invariant-each_within-loop-pattern
invariant-each_within-loop-pattern l = all_of l.patterns ≡ all_of (drop l.pattern-index l.patterns)

abbrev pub invariant-fields_within-loop-field : goal.invariant-fields_within-loop-field
invariant-fields_within-loop-field l = fields_of l.fields ≡ fields_of (drop l.field-index l.fields)
