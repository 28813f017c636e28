use Rattle.std.proofs.Common.{List, ap, map, refl}
use Rattle.typing_rules.specs.Nodes.{in_cases, in_each, in_fields, in_list}
use Rattle.abstract_tree.specs.declared.declarations.Declaration.{Declaration}
use Rattle.abstract_tree.specs.declared.expressions.Case.{Case}
use Rattle.abstract_tree.specs.declared.expressions.Expression.{Expression}
use Rattle.abstract_tree.specs.declared.expressions.ObjectField.{ObjectField}
use Rattle.abstract_tree.specs.TreeView.{case, cases, declaration, declarations, expression, fields, listed, object_field}
use Rattle.value_scopes.specs.declared.note.Note.{Note}
use Rattle.judged_parts.specs.Parts.{See, seen_parts}
use Rattle.judged_parts.proofs.TreeViews as V
use Rattle.kernel_counts.proofs.Adding.{all_left, counts_then, field_counted, field_less, node_alone, node_one, node_two, node_three, none_left, one_less, same_part, two_parts, three_parts}
use Rattle.kernel_counts.proofs.Parted.{of_case, of_declaration, of_expression, of_member, of_object_field}
use Rattle.kernel_counts.proofs.declarations.+expressions.Goals as goal

pub expression_within-returns-in-Nothing : goal.expression_within-returns-in-Nothing
expression_within-returns-in-Nothing t c = λ (see : See). node_alone _ _ _ c.in_ok-here.ensures (of_expression see c.args.a.now _ _ _ c.get.ensures (c.parts_of_form.ensures see) (ap (seen_parts see) c.in-Nothing.is))

pub expression_within-returns-in-Name : goal.expression_within-returns-in-Name
expression_within-returns-in-Name t c = λ (see : See). node_alone _ _ _ c.in_ok-here.ensures (of_expression see c.args.a.now _ _ _ c.get.ensures (c.parts_of_form.ensures see) (ap (seen_parts see) c.in-Name.is))

pub expression_within-returns-in-One : goal.expression_within-returns-in-One
expression_within-returns-in-One t c = λ (see : See). node_one _ _ _ _ c.expression_within.result c.in_ok-here.ensures (c.expression_within.ensures see) (of_expression see c.args.a.now _ _ _ c.get.ensures (c.parts_of_form.ensures see) (ap (seen_parts see) c.in-One.is))

pub expression_within-returns-in_ok-first-in-Two : goal.expression_within-returns-in_ok-first-in-Two
expression_within-returns-in_ok-first-in-Two t c = λ (see : See). node_two _ _ _ _ _ _ c.expression_within-in-Two-2.result c.in_ok-here.ensures (c.in_ok-first-in-Two.ensures see) (c.expression_within-in-Two-2.ensures see) (of_expression see c.args.a.now _ _ _ c.get.ensures (c.parts_of_form.ensures see) (ap (seen_parts see) c.in-Two.is))

pub expression_within-returns-in_ok-second-in-Three : goal.expression_within-returns-in_ok-second-in-Three
expression_within-returns-in_ok-second-in-Three t c = λ (see : See). node_three _ _ _ _ _ _ _ _ c.expression_within-in-Three-3.result c.in_ok-here.ensures (c.in_ok-first-in-Three.ensures see) (c.in_ok-second-in-Three.ensures see) (c.expression_within-in-Three-3.ensures see) (of_expression see c.args.a.now _ _ _ c.get.ensures (c.parts_of_form.ensures see) (ap (seen_parts see) c.in-Three.is))

pub expression_within-returns-in-Each : goal.expression_within-returns-in-Each
expression_within-returns-in-Each t c = λ (see : See). node_one _ _ _ _ c.each_within.result c.in_ok-here.ensures (c.each_within.ensures see) (of_expression see c.args.a.now _ _ _ c.get.ensures (c.parts_of_form.ensures see) (ap (seen_parts see) c.in-Each.is))

pub expression_within-returns-in-Fields : goal.expression_within-returns-in-Fields
expression_within-returns-in-Fields t c = λ (see : See). node_one _ _ _ _ c.fields_within.result c.in_ok-here.ensures (c.fields_within.ensures see) (of_expression see c.args.a.now _ _ _ c.get.ensures (c.parts_of_form.ensures see) (ap (seen_parts see) c.in-Fields.is))

pub expression_within-returns-in_ok-first-in-Annotated : goal.expression_within-returns-in_ok-first-in-Annotated
expression_within-returns-in_ok-first-in-Annotated t c = λ (see : See). node_two _ _ _ _ _ _ c.count_type.result c.in_ok-here.ensures (c.in_ok-first-in-Annotated.ensures see) c.count_type.ensures (of_expression see c.args.a.now _ _ _ c.get.ensures (c.parts_of_form.ensures see) (ap (seen_parts see) c.in-Annotated.is))

pub expression_within-returns-in_ok-second-in-Call : goal.expression_within-returns-in_ok-second-in-Call
expression_within-returns-in_ok-second-in-Call t c = λ (see : See). node_three _ _ _ _ _ _ _ _ c.each_within-in-Call.result c.in_ok-here.ensures (c.in_ok-first-in-Call.ensures see) c.in_ok-second-in-Call.ensures (c.each_within-in-Call.ensures see) (of_expression see c.args.a.now _ _ _ c.get.ensures (c.parts_of_form.ensures see) (ap (seen_parts see) c.in-Call.is))

pub expression_within-returns-in_ok-first-in-Switch : goal.expression_within-returns-in_ok-first-in-Switch
expression_within-returns-in_ok-first-in-Switch t c = λ (see : See). node_two _ _ _ _ _ _ c.cases_within.result c.in_ok-here.ensures (c.in_ok-first-in-Switch.ensures see) (c.cases_within.ensures see) (of_expression see c.args.a.now _ _ _ c.get.ensures (c.parts_of_form.ensures see) (ap (seen_parts see) c.in-Switch.is))

pub expression_within-returns-in_ok-second-in-WithPattern : goal.expression_within-returns-in_ok-second-in-WithPattern
expression_within-returns-in_ok-second-in-WithPattern t c = λ (see : See). node_three _ _ _ _ _ _ _ _ c.expression_within-in-WithPattern-2.result c.in_ok-here.ensures (c.in_ok-first-in-WithPattern.ensures see) (c.in_ok-second-in-WithPattern.ensures see) (c.expression_within-in-WithPattern-2.ensures see) (of_expression see c.args.a.now _ _ _ c.get.ensures (c.parts_of_form.ensures see) (ap (seen_parts see) c.in-WithPattern.is))

pub expression_within-returns-in_ok-first-in-Labelled : goal.expression_within-returns-in_ok-first-in-Labelled
expression_within-returns-in_ok-first-in-Labelled t c = λ (see : See). node_two _ _ _ _ _ _ c.expression_within-in-Labelled.result c.in_ok-here.ensures c.in_ok-first-in-Labelled.ensures (c.expression_within-in-Labelled.ensures see) (of_expression see c.args.a.now _ _ _ c.get.ensures (c.parts_of_form.ensures see) (ap (seen_parts see) c.in-Labelled.is))

pub expression_within-returns-in-Declared : goal.expression_within-returns-in-Declared
expression_within-returns-in-Declared t c = λ (see : See). node_one _ _ _ _ c.list_within.result c.in_ok-here.ensures (c.list_within.ensures see) (of_expression see c.args.a.now _ _ _ c.get.ensures (c.parts_of_form.ensures see) (ap (seen_parts see) c.in-Declared.is))

pub expression_within-returns-in_ok-first-in-Function : goal.expression_within-returns-in_ok-first-in-Function
expression_within-returns-in_ok-first-in-Function t c = λ (see : See). node_two _ _ _ _ _ _ c.expression_within-in-Function.result c.in_ok-here.ensures (c.in_ok-first-in-Function.ensures see) (c.expression_within-in-Function.ensures see) (of_expression see c.args.a.now _ _ _ c.get.ensures (c.parts_of_form.ensures see) (ap (seen_parts see) c.in-Function.is))

pub expression_within-returns-in-Subsumed : goal.expression_within-returns-in-Subsumed
expression_within-returns-in-Subsumed t c = λ (see : See). same_part _ _ _ c.expression_within-in-Subsumed.result (c.expression_within-in-Subsumed.ensures see) (of_expression see c.args.a.now _ _ _ c.get.ensures (c.parts_of_form.ensures see) (ap (seen_parts see) c.in-Subsumed.is))

pub each_within-loop-item-init : goal.each_within-loop-item-init
each_within-loop-item-init t c = λ (see : See). all_left (λ (xs : List (Expression Note)). in_each (listed (map (expression see) xs))) c.args.items.now c.args.counted

pub each_within-loop-item-preserved : goal.each_within-loop-item-preserved
each_within-loop-item-preserved t c = λ (see : See). one_less (λ (xs : List (Expression Note)). in_each (listed (map (expression see) xs))) c.args.items.now c.args.counted _ _ _ _ _ c.loop-item-test.true c.item-item.is (c.in_ok-sum.ensures see) refl (c.loop-item.invariant see)

pub each_within-returns : goal.each_within-returns
each_within-returns t c = λ (see : See). none_left (λ (xs : List (Expression Note)). in_each (listed (map (expression see) xs))) c.args.items.now c.args.counted _ _ c.loop-item-test.false refl (c.loop-item.invariant see)

pub cases_within-loop-case-init : goal.cases_within-loop-case-init
cases_within-loop-case-init t c = λ (see : See). all_left (λ (xs : List (Case Note)). in_cases (cases (map (case see) xs))) c.args.list.now c.args.counted

pub cases_within-loop-case-preserved : goal.cases_within-loop-case-preserved
cases_within-loop-case-preserved t c = λ (see : See). field_less (λ (xs : List (Case Note)). in_cases (cases (map (case see) xs))) in_cases (λ xs. cases (map (case see) xs)) (case see) (λ xs. refl) (λ x xs. refl) c.args.list.now c.args.counted _ _ _ _ c.loop-case-test.true c.case-item.is
    (field_counted in_cases _ _ _ _ (counts_then _ _ _ _ _ (c.in_ok-pattern.ensures see) (c.in_ok-sum.ensures see)) (of_case see _)) (c.loop-case.invariant see)

pub cases_within-returns : goal.cases_within-returns
cases_within-returns t c = λ (see : See). none_left (λ (xs : List (Case Note)). in_cases (cases (map (case see) xs))) c.args.list.now c.args.counted _ _ c.loop-case-test.false refl (c.loop-case.invariant see)

pub fields_within-loop-field-init : goal.fields_within-loop-field-init
fields_within-loop-field-init t c = λ (see : See). all_left (λ (xs : List (ObjectField Note)). in_fields (fields (map (object_field see) xs))) c.args.list.now c.args.counted

pub fields_within-loop-field-preserved : goal.fields_within-loop-field-preserved
fields_within-loop-field-preserved t c = λ (see : See). field_less (λ (xs : List (ObjectField Note)). in_fields (fields (map (object_field see) xs))) in_fields (λ xs. fields (map (object_field see) xs)) (object_field see) (λ xs. refl) (λ x xs. refl) c.args.list.now c.args.counted _ _ _ _ c.loop-field-test.true c.field-item.is
    (field_counted in_fields _ _ _ _ (counts_then _ _ _ _ _ (counts_then 1 _ _ _ _ c.in_ok-here.ensures c.in_ok-annotation.ensures) (c.in_ok-sum.ensures see)) (of_object_field see _)) (c.loop-field.invariant see)

pub fields_within-returns : goal.fields_within-returns
fields_within-returns t c = λ (see : See). none_left (λ (xs : List (ObjectField Note)). in_fields (fields (map (object_field see) xs))) c.args.list.now c.args.counted _ _ c.loop-field-test.false refl (c.loop-field.invariant see)

pub list_within-loop-one-init : goal.list_within-loop-one-init
list_within-loop-one-init t c = λ (see : See). all_left (λ (xs : List (Declaration Note)). in_list (declarations (map (declaration see) xs))) c.args.list.now c.args.counted

pub list_within-loop-one-preserved : goal.list_within-loop-one-preserved
list_within-loop-one-preserved t c = λ (see : See). field_less (λ (xs : List (Declaration Note)). in_list (declarations (map (declaration see) xs))) in_list (λ xs. declarations (map (declaration see) xs)) (declaration see) (λ xs. refl) (λ x xs. refl) c.args.list.now c.args.counted _ _ _ _ c.loop-one-test.true c.one-item.is
    (field_counted in_list _ _ _ _ (counts_then 1 _ _ _ _ c.in_ok-here.ensures (rw c.get.ensures at (c.in_ok-sum.ensures see))) (of_member see _)) (c.loop-one.invariant see)

pub list_within-returns : goal.list_within-returns
list_within-returns t c = λ (see : See). none_left (λ (xs : List (Declaration Note)). in_list (declarations (map (declaration see) xs))) c.args.list.now c.args.counted _ _ c.loop-one-test.false refl (c.loop-one.invariant see)

pub declaration_within-returns-in_ok-first-in-Let : goal.declaration_within-returns-in_ok-first-in-Let
declaration_within-returns-in_ok-first-in-Let t c = λ (see : See). two_parts _ _ _ _ _ c.expression_within.result (c.in_ok-first-in-Let.ensures see) (c.expression_within.ensures see) (of_declaration see c.args.form.now _ _ c.in-Let.is (V.seen_Let see _ _))

pub declaration_within-returns-in_ok-first-in-Var : goal.declaration_within-returns-in_ok-first-in-Var
declaration_within-returns-in_ok-first-in-Var t c = λ (see : See). two_parts _ _ _ _ _ c.expression_within-in-Var.result c.in_ok-first-in-Var.ensures (c.expression_within-in-Var.ensures see) (of_declaration see c.args.form.now _ _ c.in-Var.is (V.seen_Var see _ _ _ _))

pub declaration_within-returns-in_ok-first-in-Func : goal.declaration_within-returns-in_ok-first-in-Func
declaration_within-returns-in_ok-first-in-Func t c = λ (see : See). two_parts _ _ _ _ _ c.expression_within-in-Func.result (c.in_ok-first-in-Func.ensures see) (c.expression_within-in-Func.ensures see) (of_declaration see c.args.form.now _ _ c.in-Func.is (V.seen_Func see _ _ _))

pub declaration_within-returns-in_ok-second-in-Method : goal.declaration_within-returns-in_ok-second-in-Method
declaration_within-returns-in_ok-second-in-Method t c = λ (see : See). three_parts _ _ _ _ _ _ _ c.expression_within-in-Method.result (c.in_ok-first-in-Method.ensures see) (c.in_ok-second-in-Method.ensures see) (c.expression_within-in-Method.ensures see) (of_declaration see c.args.form.now _ _ c.in-Method.is (V.seen_Method see _ _ _ _ _))

pub declaration_within-returns-in-System : goal.declaration_within-returns-in-System
declaration_within-returns-in-System t c = λ (see : See). same_part _ _ _ c.expression_within-in-System.result (c.expression_within-in-System.ensures see) (of_declaration see c.args.form.now _ _ c.in-System.is (V.seen_System see _ _))

pub declaration_within-returns-in-TypeAlias : goal.declaration_within-returns-in-TypeAlias
declaration_within-returns-in-TypeAlias t c = λ (see : See). same_part _ _ _ c.count_type.result c.count_type.ensures (of_declaration see c.args.form.now _ _ c.in-TypeAlias.is (V.seen_TypeAlias see _ _ _))

pub declaration_within-returns-in_ok-first-in-Class : goal.declaration_within-returns-in_ok-first-in-Class
declaration_within-returns-in_ok-first-in-Class t c = λ (see : See). two_parts _ _ _ _ _ c.list_within.result (c.in_ok-first-in-Class.ensures see) (rw c.as_slice.ensures at (c.list_within.ensures see)) (of_declaration see c.args.form.now _ _ c.in-Class.is (V.seen_Class see _ _ _))

pub declaration_within-returns-in-NamedObject : goal.declaration_within-returns-in-NamedObject
declaration_within-returns-in-NamedObject t c = λ (see : See). same_part _ _ _ c.list_within-in-NamedObject.result (rw c.as_slice-in-NamedObject.ensures at (c.list_within-in-NamedObject.ensures see)) (of_declaration see c.args.form.now _ _ c.in-NamedObject.is (V.seen_NamedObject see _ _))

pub declaration_within-returns-in-Evaluate : goal.declaration_within-returns-in-Evaluate
declaration_within-returns-in-Evaluate t c = λ (see : See). same_part _ _ _ c.expression_within-in-Evaluate.result (c.expression_within-in-Evaluate.ensures see) (of_declaration see c.args.form.now _ _ c.in-Evaluate.is (V.seen_Evaluate see _))
