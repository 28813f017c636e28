use Rattle.std.proofs.Common.{◌+◌, ◌*◌, map, take}
use Rattle.abstract_types.specs.TypeView.{type_field}
use Rattle.type_scopes.specs.Scopes.{seen}
use Rattle.written_types.specs.Written.{WroteEach, WroteFields}
use Rattle.written_types.proofs.Making.{written}
use Rattle.written_types.proofs.writing.+within.Given as goal

abbrev pub decreases-term_within : goal.decreases-term_within
decreases-term_within l = 3 * l.depth

abbrev pub decreases-each_within : goal.decreases-each_within
decreases-each_within l = 3 * l.depth + 1

abbrev pub decreases-field_within : goal.decreases-field_within
decreases-field_within l = 3 * l.depth + 1

abbrev pub decreases-fields_within : goal.decreases-fields_within
decreases-fields_within l = 3 * l.depth + 2

abbrev pub decreases-function_within : goal.decreases-function_within
decreases-function_within l = 3 * l.depth + 2

abbrev pub invariant-each_within-loop-node : goal.invariant-each_within-loop-node
invariant-each_within-loop-node l = WroteEach l.initial.types l.types (map (written (seen l.scope)) (take l.node-index l.nodes)) l.made.items

abbrev pub invariant-fields_within-loop-field : goal.invariant-fields_within-loop-field
invariant-fields_within-loop-field l = WroteFields l.initial.types l.types (seen l.scope) (map type_field (take l.field-index l.fields)) l.made.items
