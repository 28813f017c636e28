use Rattle.std.proofs.Common.{List, ◌+◌, ◌*◌, drop, map}
use Rattle.typing_rules.specs.Nodes.{in_cases, in_each, in_fields, in_list}
use Rattle.abstract_tree.specs.declared.declarations.Declaration.{Declaration}
use Rattle.abstract_tree.specs.declared.expressions.Case.{Case}
use Rattle.abstract_tree.specs.declared.expressions.Expression.{Expression}
use Rattle.abstract_tree.specs.declared.expressions.ObjectField.{ObjectField}
use Rattle.abstract_tree.specs.TreeView.{case, cases, declaration, declarations, expression, fields, listed, object_field}
use Rattle.value_scopes.specs.declared.note.Note.{Note}
use Rattle.judged_parts.specs.Parts.{See}
use Rattle.kernel_counts.proofs.Adding.{Left}
use Rattle.kernel_counts.proofs.declarations.+expressions.Given as goal

abbrev pub decreases-expression_within : goal.decreases-expression_within
decreases-expression_within l = 2 * l.depth

abbrev pub decreases-declaration_within : goal.decreases-declaration_within
decreases-declaration_within l = 2 * l.depth

abbrev pub decreases-each_within : goal.decreases-each_within
decreases-each_within l = 2 * l.depth + 1

abbrev pub decreases-cases_within : goal.decreases-cases_within
decreases-cases_within l = 2 * l.depth + 1

abbrev pub decreases-fields_within : goal.decreases-fields_within
decreases-fields_within l = 2 * l.depth + 1

abbrev pub decreases-list_within : goal.decreases-list_within
decreases-list_within l = 2 * l.depth + 1

abbrev pub invariant-each_within-loop-item : goal.invariant-each_within-loop-item
invariant-each_within-loop-item l = (see : See) → Left (λ (xs : List (Expression Note)). in_each (listed (map (expression see) xs))) l.fn.items l.fn.counted (drop l.item-index l.items) l.sum

abbrev pub invariant-cases_within-loop-case : goal.invariant-cases_within-loop-case
invariant-cases_within-loop-case l = (see : See) → Left (λ (xs : List (Case Note)). in_cases (cases (map (case see) xs))) l.fn.list l.fn.counted (drop l.case-index l.list) l.sum

abbrev pub invariant-fields_within-loop-field : goal.invariant-fields_within-loop-field
invariant-fields_within-loop-field l = (see : See) → Left (λ (xs : List (ObjectField Note)). in_fields (fields (map (object_field see) xs))) l.fn.list l.fn.counted (drop l.field-index l.list) l.sum

abbrev pub invariant-list_within-loop-one : goal.invariant-list_within-loop-one
invariant-list_within-loop-one l = (see : See) → Left (λ (xs : List (Declaration Note)). in_list (declarations (map (declaration see) xs))) l.fn.list l.fn.counted (drop l.one-index l.list) l.sum
