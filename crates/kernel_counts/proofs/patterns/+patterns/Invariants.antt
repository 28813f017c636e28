use Rattle.std.proofs.Common.{List, ◌+◌, ◌*◌, drop, map}
use Rattle.typing_rules.specs.Nodes.{in_pattern_fields, in_patterns}
use Rattle.abstract_types.specs.declared.patterns.Pattern.{Pattern}
use Rattle.abstract_types.specs.declared.patterns.PatternField.{PatternField}
use Rattle.abstract_types.specs.PatternView.{fields, listed, pattern, pattern_field}
use Rattle.value_scopes.specs.declared.note.Note.{Note}
use Rattle.judged_parts.specs.Parts.{See}
use Rattle.kernel_counts.proofs.Adding.{Left}
use Rattle.kernel_counts.proofs.patterns.+patterns.Given as goal

abbrev pub decreases-count_pattern_within : goal.decreases-count_pattern_within
decreases-count_pattern_within l = 2 * l.depth

abbrev pub decreases-count_patterns_within : goal.decreases-count_patterns_within
decreases-count_patterns_within l = 2 * l.depth + 1

abbrev pub decreases-count_fields_within : goal.decreases-count_fields_within
decreases-count_fields_within l = 2 * l.depth + 1

abbrev pub invariant-count_patterns_within-loop-q : goal.invariant-count_patterns_within-loop-q
invariant-count_patterns_within-loop-q l = (see : See) → Left (λ (qs : List (Pattern Note)). in_patterns (listed (map (pattern see) qs))) l.fn.patterns l.fn.counted (drop l.q-index l.patterns) l.sum

abbrev pub invariant-count_fields_within-loop-field : goal.invariant-count_fields_within-loop-field
invariant-count_fields_within-loop-field l = (see : See) → Left (λ (fs : List (PatternField Note)). in_pattern_fields (fields (map (pattern_field see) fs))) l.fn.list l.fn.counted (drop l.field-index l.list) l.sum
