use Rattle.std.proofs.Common.{◌≡◌, ◌+◌, ◌*◌, map, take}
use Rattle.abstract_types.specs.TypeView.{type_field, type_node}
use Rattle.type_copies.proofs.copying.+within.Given as goal

abbrev pub decreases-type_within : goal.decreases-type_within
decreases-type_within l = 4 * l.depth

abbrev pub decreases-types_within : goal.decreases-types_within
decreases-types_within l = 4 * l.depth + 1

abbrev pub decreases-field_within : goal.decreases-field_within
decreases-field_within l = 4 * l.depth + 1

abbrev pub decreases-fields_within : goal.decreases-fields_within
decreases-fields_within l = 4 * l.depth + 2

abbrev pub decreases-form_within : goal.decreases-form_within
decreases-form_within l = 4 * l.depth + 3

abbrev pub invariant-types_within-loop-node : goal.invariant-types_within-loop-node
invariant-types_within-loop-node l = map type_node l.made ≡ map type_node (take l.node-index l.nodes)

abbrev pub invariant-fields_within-loop-field : goal.invariant-fields_within-loop-field
invariant-fields_within-loop-field l = map type_field l.made ≡ map type_field (take l.field-index l.fields)
