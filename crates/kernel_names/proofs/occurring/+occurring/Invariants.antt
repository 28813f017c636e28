use Rattle.std.proofs.Common.{List, ◌+◌, ◌*◌, drop, map}
use Rattle.abstract_tree.specs.declared.declarations.Declaration.{Declaration}
use Rattle.abstract_tree.specs.declared.expressions.Case.{Case}
use Rattle.abstract_tree.specs.declared.expressions.Expression.{Expression}
use Rattle.abstract_tree.specs.declared.expressions.ObjectField.{ObjectField}
use Rattle.abstract_tree.specs.TreeView.{case, cases, declaration, declarations, expression, fields, listed, object_field}
use Rattle.value_scopes.specs.declared.note.Note.{Note}
use Rattle.desugaring.specs.FreeNames.{in_cases, in_declarations, in_each, in_fields}
use Rattle.judged_parts.specs.Parts.{See}
use Rattle.kernel_names.proofs.Collecting.{LeftIn}
use Rattle.kernel_names.proofs.occurring.+occurring.Given as goal

abbrev pub decreases-expression_within : goal.decreases-expression_within
decreases-expression_within l = 4 * l.depth

abbrev pub decreases-declaration_within : goal.decreases-declaration_within
decreases-declaration_within l = 4 * l.depth

abbrev pub decreases-function_within : goal.decreases-function_within
decreases-function_within l = 4 * l.depth + 1

abbrev pub decreases-arm_within : goal.decreases-arm_within
decreases-arm_within l = 4 * l.depth + 1

abbrev pub decreases-each_within : goal.decreases-each_within
decreases-each_within l = 4 * l.depth + 1

abbrev pub decreases-fields_within : goal.decreases-fields_within
decreases-fields_within l = 4 * l.depth + 1

abbrev pub decreases-list_within : goal.decreases-list_within
decreases-list_within l = 4 * l.depth + 1

abbrev pub decreases-cases_within : goal.decreases-cases_within
decreases-cases_within l = 4 * l.depth + 2

abbrev pub decreases-block_within : goal.decreases-block_within
decreases-block_within l = 4 * l.depth + 2

abbrev pub decreases-class_within : goal.decreases-class_within
decreases-class_within l = 4 * l.depth + 3

abbrev pub invariant-each_within-loop-item : goal.invariant-each_within-loop-item
invariant-each_within-loop-item l = (see : See) → LeftIn (λ (xs : List (Expression Note)). in_each (listed (map (expression see) xs))) l.fn.items l.initial.bound l.initial.names (drop l.item-index l.items) l.bound l.names

abbrev pub invariant-cases_within-loop-one : goal.invariant-cases_within-loop-one
invariant-cases_within-loop-one l = (see : See) → LeftIn (λ (xs : List (Case Note)). in_cases (cases (map (case see) xs))) l.fn.list l.initial.bound l.initial.names (drop l.one-index l.list) l.bound l.names

abbrev pub invariant-fields_within-loop-field : goal.invariant-fields_within-loop-field
invariant-fields_within-loop-field l = (see : See) → LeftIn (λ (xs : List (ObjectField Note)). in_fields (fields (map (object_field see) xs))) l.fn.list l.initial.bound l.initial.names (drop l.field-index l.list) l.bound l.names

abbrev pub invariant-list_within-loop-one : goal.invariant-list_within-loop-one
invariant-list_within-loop-one l = (see : See) → LeftIn (λ (xs : List (Declaration Note)). in_declarations (declarations (map (declaration see) xs))) l.fn.list l.initial.bound l.initial.names (drop l.one-index l.list) l.bound l.names
