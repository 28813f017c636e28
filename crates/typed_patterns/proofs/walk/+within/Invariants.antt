use Rattle.std.proofs.Common.{◌+◌, ◌*◌, ◌≤◌, length, map, take}
use Rattle.abstract_types.specs.PatternView.{plain}
use Rattle.type_scopes.specs.Scopes.{seen}
use Rattle.typed_patterns.specs.Binding.{Binds, each_stands, fields_in, patterns_in}
use Rattle.typed_patterns.proofs.Several.{all_stand}
use Rattle.typed_patterns.proofs.walk.+within.Given as goal

abbrev pub decreases-stands_within : goal.decreases-stands_within
decreases-stands_within l = 4 * l.depth

abbrev pub decreases-silent_within : goal.decreases-silent_within
decreases-silent_within l = 4 * l.depth + 1

abbrev pub decreases-field_within : goal.decreases-field_within
decreases-field_within l = 4 * l.depth + 1

abbrev pub decreases-annotated_within : goal.decreases-annotated_within
decreases-annotated_within l = 4 * l.depth + 2

abbrev pub decreases-alternative_within : goal.decreases-alternative_within
decreases-alternative_within l = 4 * l.depth + 2

abbrev pub decreases-optional_within : goal.decreases-optional_within
decreases-optional_within l = 4 * l.depth + 2

abbrev pub decreases-tagged_within : goal.decreases-tagged_within
decreases-tagged_within l = 4 * l.depth + 2

abbrev pub decreases-tuple_within : goal.decreases-tuple_within
decreases-tuple_within l = 4 * l.depth + 2

abbrev pub decreases-object_within : goal.decreases-object_within
decreases-object_within l = 4 * l.depth + 2

abbrev pub invariant-tuple_within-loop-i : goal.invariant-tuple_within-loop-i
invariant-tuple_within-loop-i l = record {
  many : l.i ≤ length l.kinds.items;
  binds : Binds (each_stands (seen l.scope) l.note.at (map plain (take l.i l.items)) (take l.i l.kinds.items)) l.initial.types l.types l.sharing l.initial.names l.names (patterns_in l.parts);
}

abbrev pub invariant-object_within-loop-field : goal.invariant-object_within-loop-field
invariant-object_within-loop-field l = Binds (all_stand (seen l.scope) l.note.kind (take l.field-index l.fields)) l.initial.types l.types l.sharing l.initial.names l.names (fields_in l.parts)
