use Rattle.std.proofs.Common.{List, ◌+◌, ◌*◌, drop, map}
use Rattle.typing_rules.specs.AbstractTypes.{type_fields, type_nodes}
use Rattle.typing_rules.specs.Nodes.{in_type_fields, in_types}
use Rattle.abstract_types.specs.declared.types.TypeNode.{TypeNode}
use Rattle.abstract_types.specs.declared.types.TypeField.{TypeField}
use Rattle.abstract_types.specs.TypeView.{type_field, type_node}
use Rattle.kernel_counts.proofs.Adding.{Left}
use Rattle.kernel_counts.proofs.types.+types.Given as goal

abbrev pub decreases-count_type_within : goal.decreases-count_type_within
decreases-count_type_within l = 3 * l.depth

abbrev pub decreases-count_types_within : goal.decreases-count_types_within
decreases-count_types_within l = 3 * l.depth + 1

abbrev pub decreases-count_field_within : goal.decreases-count_field_within
decreases-count_field_within l = 3 * l.depth + 1

abbrev pub decreases-count_fields_within : goal.decreases-count_fields_within
decreases-count_fields_within l = 3 * l.depth + 2

abbrev pub invariant-count_types_within-loop-node : goal.invariant-count_types_within-loop-node
invariant-count_types_within-loop-node l = Left (λ (ns : List TypeNode). in_types (type_nodes (map type_node ns))) l.fn.nodes l.fn.counted (drop l.node-index l.nodes) l.sum

abbrev pub invariant-count_fields_within-loop-field : goal.invariant-count_fields_within-loop-field
invariant-count_fields_within-loop-field l = Left (λ (fs : List TypeField). in_type_fields (type_fields (map type_field fs))) l.fn.fields l.fn.counted (drop l.field-index l.fields) l.sum
