use Rattle.std.proofs.Common.{List, ◌+◌, ◌*◌, drop, map}
use Rattle.abstract_types.specs.declared.patterns.Pattern.{Pattern}
use Rattle.abstract_types.specs.declared.patterns.PatternField.{PatternField}
use Rattle.abstract_types.specs.PatternView.{fields, listed, pattern, pattern_field}
use Rattle.value_scopes.specs.declared.note.Note.{Note}
use Rattle.desugaring.specs.FreeNames.{names_in_each, names_in_fields}
use Rattle.judged_parts.specs.Parts.{See}
use Rattle.kernel_names.proofs.Collecting.{Left}
use Rattle.kernel_names.proofs.patterns.+patterns.Given as goal

abbrev pub decreases-pattern_within : goal.decreases-pattern_within
decreases-pattern_within l = 2 * l.depth

abbrev pub decreases-each_within : goal.decreases-each_within
decreases-each_within l = 2 * l.depth + 1

abbrev pub decreases-fields_within : goal.decreases-fields_within
decreases-fields_within l = 2 * l.depth + 1

abbrev pub invariant-each_within-loop-item : goal.invariant-each_within-loop-item
invariant-each_within-loop-item l = (see : See) → Left (λ (qs : List (Pattern Note)). names_in_each (listed (map (pattern see) qs))) l.fn.items l.initial.names (drop l.item-index l.items) l.names

abbrev pub invariant-fields_within-loop-field : goal.invariant-fields_within-loop-field
invariant-fields_within-loop-field l = (see : See) → Left (λ (fs : List (PatternField Note)). names_in_fields (fields (map (pattern_field see) fs))) l.fn.list l.initial.names (drop l.field-index l.list) l.names
