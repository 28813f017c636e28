use Rattle.std.proofs.Common.{ℕ, List, ap, map, refl}
use Rattle.typing_rules.specs.Nodes.{in_cases, in_each, in_fields, in_list}
use Rattle.expression_parts.specs.Parts.{seen_parts}
use Rattle.abstract_tree.specs.declared.declarations.Declaration.{Declaration}
use Rattle.abstract_tree.specs.declared.expressions.Case.{Case}
use Rattle.abstract_tree.specs.declared.expressions.Expression.{Expression}
use Rattle.abstract_tree.specs.declared.expressions.ObjectField.{ObjectField}
use Rattle.abstract_tree.specs.TreeView.{cases, declarations, fields, listed, plain, plain_case, plain_declaration, plain_field}
use Rattle.abstract_tree.proofs.TreeViews as V
use Rattle.node_counts.proofs.Adding.{all_left, counts_then, field_counted, field_less, node_alone, node_one, node_two, node_three, none_left, one_less, same_part, two_parts, three_parts}
use Rattle.node_counts.proofs.Parted.{of_case, of_declaration, of_expression, of_member, of_object_field}
use Rattle.node_counts.proofs.declarations.+expressions.Goals as goal

pub count_expression-returns-in-Nothing : goal.count_expression-returns-in-Nothing
count_expression-returns-in-Nothing t c = node_alone _ _ _ c.one_more-here.ensures (of_expression c.args.a.now _ _ _ c.get.ensures c.parts_of_form.ensures (ap seen_parts c.in-Nothing.is))

pub count_expression-returns-in-One : goal.count_expression-returns-in-One
count_expression-returns-in-One t c = node_one _ _ _ _ c.count_expression.result c.one_more-here.ensures c.count_expression.ensures (of_expression c.args.a.now _ _ _ c.get.ensures c.parts_of_form.ensures (ap seen_parts c.in-One.is))

pub count_expression-returns-in_ok-first-in-Two : goal.count_expression-returns-in_ok-first-in-Two
count_expression-returns-in_ok-first-in-Two t c = node_two _ _ _ _ _ _ c.count_expression-in-Two-2.result c.one_more-here.ensures c.in_ok-first-in-Two.ensures c.count_expression-in-Two-2.ensures (of_expression c.args.a.now _ _ _ c.get.ensures c.parts_of_form.ensures (ap seen_parts c.in-Two.is))

pub count_expression-returns-in_ok-second-in-Three : goal.count_expression-returns-in_ok-second-in-Three
count_expression-returns-in_ok-second-in-Three t c = node_three _ _ _ _ _ _ _ _ c.count_expression-in-Three-3.result c.one_more-here.ensures c.in_ok-first-in-Three.ensures c.in_ok-second-in-Three.ensures c.count_expression-in-Three-3.ensures (of_expression c.args.a.now _ _ _ c.get.ensures c.parts_of_form.ensures (ap seen_parts c.in-Three.is))

pub count_expression-returns-in-Each : goal.count_expression-returns-in-Each
count_expression-returns-in-Each t c = node_one _ _ _ _ c.count_each.result c.one_more-here.ensures c.count_each.ensures (of_expression c.args.a.now _ _ _ c.get.ensures c.parts_of_form.ensures (ap seen_parts c.in-Each.is))

pub count_expression-returns-in-Fields : goal.count_expression-returns-in-Fields
count_expression-returns-in-Fields t c = node_one _ _ _ _ c.count_fields.result c.one_more-here.ensures c.count_fields.ensures (of_expression c.args.a.now _ _ _ c.get.ensures c.parts_of_form.ensures (ap seen_parts c.in-Fields.is))

pub count_expression-returns-in_ok-first-in-Annotated : goal.count_expression-returns-in_ok-first-in-Annotated
count_expression-returns-in_ok-first-in-Annotated t c = node_two _ _ _ _ _ _ c.count_type.result c.one_more-here.ensures c.in_ok-first-in-Annotated.ensures c.count_type.ensures (of_expression c.args.a.now _ _ _ c.get.ensures c.parts_of_form.ensures (ap seen_parts c.in-Annotated.is))

pub count_expression-returns-in_ok-second-in-Call : goal.count_expression-returns-in_ok-second-in-Call
count_expression-returns-in_ok-second-in-Call t c = node_three _ _ _ _ _ _ _ _ c.count_each-in-Call.result c.one_more-here.ensures c.in_ok-first-in-Call.ensures c.in_ok-second-in-Call.ensures c.count_each-in-Call.ensures (of_expression c.args.a.now _ _ _ c.get.ensures c.parts_of_form.ensures (ap seen_parts c.in-Call.is))

pub count_expression-returns-in_ok-first-in-Switch : goal.count_expression-returns-in_ok-first-in-Switch
count_expression-returns-in_ok-first-in-Switch t c = node_two _ _ _ _ _ _ c.count_cases.result c.one_more-here.ensures c.in_ok-first-in-Switch.ensures c.count_cases.ensures (of_expression c.args.a.now _ _ _ c.get.ensures c.parts_of_form.ensures (ap seen_parts c.in-Switch.is))

pub count_expression-returns-in_ok-second-in-WithPattern : goal.count_expression-returns-in_ok-second-in-WithPattern
count_expression-returns-in_ok-second-in-WithPattern t c = node_three _ _ _ _ _ _ _ _ c.count_expression-in-WithPattern-2.result c.one_more-here.ensures c.in_ok-first-in-WithPattern.ensures c.in_ok-second-in-WithPattern.ensures c.count_expression-in-WithPattern-2.ensures (of_expression c.args.a.now _ _ _ c.get.ensures c.parts_of_form.ensures (ap seen_parts c.in-WithPattern.is))

pub count_expression-returns-in_ok-first-in-Labelled : goal.count_expression-returns-in_ok-first-in-Labelled
count_expression-returns-in_ok-first-in-Labelled t c = node_two _ _ _ _ _ _ c.count_expression-in-Labelled.result c.one_more-here.ensures c.in_ok-first-in-Labelled.ensures c.count_expression-in-Labelled.ensures (of_expression c.args.a.now _ _ _ c.get.ensures c.parts_of_form.ensures (ap seen_parts c.in-Labelled.is))

pub count_expression-returns-in-Declared : goal.count_expression-returns-in-Declared
count_expression-returns-in-Declared t c = node_one _ _ _ _ c.count_list.result c.one_more-here.ensures c.count_list.ensures (of_expression c.args.a.now _ _ _ c.get.ensures c.parts_of_form.ensures (ap seen_parts c.in-Declared.is))

pub count_expression-returns-in_ok-first-in-Function : goal.count_expression-returns-in_ok-first-in-Function
count_expression-returns-in_ok-first-in-Function t c = node_two _ _ _ _ _ _ c.count_expression-in-Function.result c.one_more-here.ensures c.in_ok-first-in-Function.ensures c.count_expression-in-Function.ensures (of_expression c.args.a.now _ _ _ c.get.ensures c.parts_of_form.ensures (ap seen_parts c.in-Function.is))

pub count_expression-returns-in-Subsumed : goal.count_expression-returns-in-Subsumed
count_expression-returns-in-Subsumed t c = same_part _ _ _ c.count_expression-in-Subsumed.result c.count_expression-in-Subsumed.ensures (of_expression c.args.a.now _ _ _ c.get.ensures c.parts_of_form.ensures (ap seen_parts c.in-Subsumed.is))

pub count_each-loop-item-init : goal.count_each-loop-item-init
count_each-loop-item-init t c = all_left (λ (xs : List (Expression ℕ)). in_each (listed (map plain xs))) c.args.items.now c.args.counted

pub count_each-loop-item-preserved : goal.count_each-loop-item-preserved
count_each-loop-item-preserved t c = one_less (λ (xs : List (Expression ℕ)). in_each (listed (map plain xs))) c.args.items.now c.args.counted _ _ _ _ _ c.loop-item-test.true c.item-item.is c.in_ok-sum.ensures refl c.loop-item.invariant

pub count_each-returns : goal.count_each-returns
count_each-returns t c = none_left (λ (xs : List (Expression ℕ)). in_each (listed (map plain xs))) c.args.items.now c.args.counted _ _ c.loop-item-test.false refl c.loop-item.invariant

pub count_cases-loop-case-init : goal.count_cases-loop-case-init
count_cases-loop-case-init t c = all_left (λ (xs : List (Case ℕ)). in_cases (cases (map plain_case xs))) c.args.list.now c.args.counted

pub count_cases-loop-case-preserved : goal.count_cases-loop-case-preserved
count_cases-loop-case-preserved t c = field_less (λ (xs : List (Case ℕ)). in_cases (cases (map plain_case xs))) in_cases (λ xs. cases (map plain_case xs)) plain_case (λ xs. refl) (λ x xs. refl) c.args.list.now c.args.counted _ _ _ _ c.loop-case-test.true c.case-item.is
    (field_counted in_cases _ _ _ _ (counts_then _ _ _ _ _ c.in_ok-pattern.ensures c.in_ok-sum.ensures) (of_case _)) c.loop-case.invariant

pub count_cases-returns : goal.count_cases-returns
count_cases-returns t c = none_left (λ (xs : List (Case ℕ)). in_cases (cases (map plain_case xs))) c.args.list.now c.args.counted _ _ c.loop-case-test.false refl c.loop-case.invariant

pub count_fields-loop-field-init : goal.count_fields-loop-field-init
count_fields-loop-field-init t c = all_left (λ (xs : List (ObjectField ℕ)). in_fields (fields (map plain_field xs))) c.args.list.now c.args.counted

pub count_fields-loop-field-preserved : goal.count_fields-loop-field-preserved
count_fields-loop-field-preserved t c = field_less (λ (xs : List (ObjectField ℕ)). in_fields (fields (map plain_field xs))) in_fields (λ xs. fields (map plain_field xs)) plain_field (λ xs. refl) (λ x xs. refl) c.args.list.now c.args.counted _ _ _ _ c.loop-field-test.true c.field-item.is
    (field_counted in_fields _ _ _ _ (counts_then _ _ _ _ _ (counts_then 1 _ _ _ _ c.one_more.ensures c.in_ok-annotation.ensures) c.in_ok-sum.ensures) (of_object_field _)) c.loop-field.invariant

pub count_fields-returns : goal.count_fields-returns
count_fields-returns t c = none_left (λ (xs : List (ObjectField ℕ)). in_fields (fields (map plain_field xs))) c.args.list.now c.args.counted _ _ c.loop-field-test.false refl c.loop-field.invariant

pub count_list-loop-one-init : goal.count_list-loop-one-init
count_list-loop-one-init t c = all_left (λ (xs : List (Declaration ℕ)). in_list (declarations (map plain_declaration xs))) c.args.list.now c.args.counted

pub count_list-loop-one-preserved : goal.count_list-loop-one-preserved
count_list-loop-one-preserved t c = field_less (λ (xs : List (Declaration ℕ)). in_list (declarations (map plain_declaration xs))) in_list (λ xs. declarations (map plain_declaration xs)) plain_declaration (λ xs. refl) (λ x xs. refl) c.args.list.now c.args.counted _ _ _ _ c.loop-one-test.true c.one-item.is
    (field_counted in_list _ _ _ _ (counts_then 1 _ _ _ _ c.one_more.ensures (rw c.get.ensures at c.in_ok-sum.ensures)) (of_member _)) c.loop-one.invariant

pub count_list-returns : goal.count_list-returns
count_list-returns t c = none_left (λ (xs : List (Declaration ℕ)). in_list (declarations (map plain_declaration xs))) c.args.list.now c.args.counted _ _ c.loop-one-test.false refl c.loop-one.invariant

pub count_declaration-returns-in_ok-first-in-Let : goal.count_declaration-returns-in_ok-first-in-Let
count_declaration-returns-in_ok-first-in-Let t c = two_parts _ _ _ _ _ c.count_expression.result c.in_ok-first-in-Let.ensures c.count_expression.ensures (of_declaration c.args.form.now _ _ c.in-Let.is (V.seen_Let _ _))

pub count_declaration-returns-in_ok-first-in-Var : goal.count_declaration-returns-in_ok-first-in-Var
count_declaration-returns-in_ok-first-in-Var t c = two_parts _ _ _ _ _ c.count_expression-in-Var.result c.in_ok-first-in-Var.ensures c.count_expression-in-Var.ensures (of_declaration c.args.form.now _ _ c.in-Var.is (V.seen_Var _ _ _ _))

pub count_declaration-returns-in_ok-first-in-Func : goal.count_declaration-returns-in_ok-first-in-Func
count_declaration-returns-in_ok-first-in-Func t c = two_parts _ _ _ _ _ c.count_expression-in-Func.result c.in_ok-first-in-Func.ensures c.count_expression-in-Func.ensures (of_declaration c.args.form.now _ _ c.in-Func.is (V.seen_Func _ _ _))

pub count_declaration-returns-in_ok-second-in-Method : goal.count_declaration-returns-in_ok-second-in-Method
count_declaration-returns-in_ok-second-in-Method t c = three_parts _ _ _ _ _ _ _ c.count_expression-in-Method.result c.in_ok-first-in-Method.ensures c.in_ok-second-in-Method.ensures c.count_expression-in-Method.ensures (of_declaration c.args.form.now _ _ c.in-Method.is (V.seen_Method _ _ _ _ _))

pub count_declaration-returns-in-System : goal.count_declaration-returns-in-System
count_declaration-returns-in-System t c = same_part _ _ _ c.count_expression-in-System.result c.count_expression-in-System.ensures (of_declaration c.args.form.now _ _ c.in-System.is (V.seen_System _ _))

pub count_declaration-returns-in-TypeAlias : goal.count_declaration-returns-in-TypeAlias
count_declaration-returns-in-TypeAlias t c = same_part _ _ _ c.count_type.result c.count_type.ensures (of_declaration c.args.form.now _ _ c.in-TypeAlias.is (V.seen_TypeAlias _ _ _))

pub count_declaration-returns-in_ok-first-in-Class : goal.count_declaration-returns-in_ok-first-in-Class
count_declaration-returns-in_ok-first-in-Class t c = two_parts _ _ _ _ _ c.count_list.result c.in_ok-first-in-Class.ensures (rw c.as_slice.ensures at c.count_list.ensures) (of_declaration c.args.form.now _ _ c.in-Class.is (V.seen_Class _ _ _))

pub count_declaration-returns-in-NamedObject : goal.count_declaration-returns-in-NamedObject
count_declaration-returns-in-NamedObject t c = same_part _ _ _ c.count_list-in-NamedObject.result (rw c.as_slice-in-NamedObject.ensures at c.count_list-in-NamedObject.ensures) (of_declaration c.args.form.now _ _ c.in-NamedObject.is (V.seen_NamedObject _ _))

pub count_declaration-returns-in-Evaluate : goal.count_declaration-returns-in-Evaluate
count_declaration-returns-in-Evaluate t c = same_part _ _ _ c.count_expression-in-Evaluate.result c.count_expression-in-Evaluate.ensures (of_declaration c.args.form.now _ _ c.in-Evaluate.is (V.seen_Evaluate _))
