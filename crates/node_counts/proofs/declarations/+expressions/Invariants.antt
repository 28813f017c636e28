use Rattle.std.proofs.Common.{ℕ, List, ◌+◌, ◌*◌, drop, map}
use Rattle.typing_rules.specs.Nodes.{in_cases, in_each, in_fields, in_list}
use Rattle.abstract_tree.specs.declared.declarations.Declaration.{Declaration}
use Rattle.abstract_tree.specs.declared.expressions.Case.{Case}
use Rattle.abstract_tree.specs.declared.expressions.Expression.{Expression}
use Rattle.abstract_tree.specs.declared.expressions.ObjectField.{ObjectField}
use Rattle.abstract_tree.specs.TreeView.{cases, declarations, fields, listed, plain, plain_case, plain_declaration, plain_field}
use Rattle.node_counts.proofs.Adding.{Left}
use Rattle.node_counts.proofs.declarations.+expressions.Given as goal

abbrev pub decreases-count_expression : goal.decreases-count_expression
decreases-count_expression l = 2 * l.depth

abbrev pub decreases-count_declaration : goal.decreases-count_declaration
decreases-count_declaration l = 2 * l.depth

abbrev pub decreases-count_each : goal.decreases-count_each
decreases-count_each l = 2 * l.depth + 1

abbrev pub decreases-count_cases : goal.decreases-count_cases
decreases-count_cases l = 2 * l.depth + 1

abbrev pub decreases-count_fields : goal.decreases-count_fields
decreases-count_fields l = 2 * l.depth + 1

abbrev pub decreases-count_list : goal.decreases-count_list
decreases-count_list l = 2 * l.depth + 1

abbrev pub invariant-count_each-loop-item : goal.invariant-count_each-loop-item
invariant-count_each-loop-item l = Left (λ (xs : List (Expression ℕ)). in_each (listed (map plain xs))) l.fn.items l.fn.counted (drop l.item-index l.items) l.sum

abbrev pub invariant-count_cases-loop-case : goal.invariant-count_cases-loop-case
invariant-count_cases-loop-case l = Left (λ (xs : List (Case ℕ)). in_cases (cases (map plain_case xs))) l.fn.list l.fn.counted (drop l.case-index l.list) l.sum

abbrev pub invariant-count_fields-loop-field : goal.invariant-count_fields-loop-field
invariant-count_fields-loop-field l = Left (λ (xs : List (ObjectField ℕ)). in_fields (fields (map plain_field xs))) l.fn.list l.fn.counted (drop l.field-index l.list) l.sum

abbrev pub invariant-count_list-loop-one : goal.invariant-count_list-loop-one
invariant-count_list-loop-one l = Left (λ (xs : List (Declaration ℕ)). in_list (declarations (map plain_declaration xs))) l.fn.list l.fn.counted (drop l.one-index l.list) l.sum
