use Rattle.std.proofs.Common.{◌≡◌, ◌+◌, ◌*◌, ℕ, map, take}
use Rattle.typing_rules.specs.Gathered.{in_declaration, in_expression}
use Rattle.type_scopes.specs.Scopes.{seen}
use Rattle.abstract_tree.specs.declared.declarations.Declaration.{Declaration}
use Rattle.abstract_tree.specs.declared.expressions.Case.{Case}
use Rattle.abstract_tree.specs.declared.expressions.Expression.{Expression}
use Rattle.abstract_tree.specs.declared.expressions.ObjectField.{ObjectField}
use Rattle.abstract_tree.specs.TreeView.{plain, plain_declaration_form}
use Rattle.gathered_types.specs.Finding.{Finds}
use Rattle.gathered_types.proofs.Finding.{all_of}
use Rattle.gathered_types.proofs.walk.+walk.Given as goal

abbrev pub decreases-find_expression : goal.decreases-find_expression
decreases-find_expression l = 4 * l.depth

abbrev pub decreases-find_declaration : goal.decreases-find_declaration
decreases-find_declaration l = 4 * l.depth

abbrev pub decreases-find_each : goal.decreases-find_each
decreases-find_each l = 4 * l.depth + 1

abbrev pub decreases-find_cases : goal.decreases-find_cases
decreases-find_cases l = 4 * l.depth + 1

abbrev pub decreases-find_fields : goal.decreases-find_fields
decreases-find_fields l = 4 * l.depth + 1

abbrev pub decreases-find_list : goal.decreases-find_list
decreases-find_list l = 4 * l.depth + 1

abbrev pub decreases-find_block : goal.decreases-find_block
decreases-find_block l = 4 * l.depth + 2

abbrev pub decreases-find_function : goal.decreases-find_function
decreases-find_function l = 4 * l.depth + 2

abbrev pub decreases-find_class : goal.decreases-find_class
decreases-find_class l = 4 * l.depth + 2

abbrev pub invariant-find_each-loop-one : goal.invariant-find_each-loop-one
invariant-find_each-loop-one l = record {
  found : Finds l.initial.types l.types (all_of (map (λ (x : Expression ℕ). in_expression (seen l.initial.scope) (plain x)) (take l.one-index l.items))) l.initial.found l.found;
  scope : l.scope ≡ l.initial.scope;
}

abbrev pub invariant-find_cases-loop-one : goal.invariant-find_cases-loop-one
invariant-find_cases-loop-one l = record {
  found : Finds l.initial.types l.types (all_of (map (λ (x : Case ℕ). in_expression (seen l.initial.scope) (plain x.body)) (take l.one-index l.list))) l.initial.found l.found;
  scope : l.scope ≡ l.initial.scope;
}

abbrev pub invariant-find_fields-loop-one : goal.invariant-find_fields-loop-one
invariant-find_fields-loop-one l = record {
  found : Finds l.initial.types l.types (all_of (map (λ (x : ObjectField ℕ). in_expression (seen l.initial.scope) (plain x.value)) (take l.one-index l.list))) l.initial.found l.found;
  scope : l.scope ≡ l.initial.scope;
}

abbrev pub invariant-find_list-loop-one : goal.invariant-find_list-loop-one
invariant-find_list-loop-one l = record {
  found : Finds l.initial.types l.types (all_of (map (λ (x : Declaration ℕ). in_declaration (seen l.initial.scope) (plain_declaration_form x.form)) (take l.one-index l.list))) l.initial.found l.found;
  scope : l.scope ≡ l.initial.scope;
}
