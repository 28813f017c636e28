use Rattle.std.proofs.Common.{List, ap, map, refl}
use Rattle.abstract_tree.specs.declared.declarations.Declaration.{Declaration}
use Rattle.abstract_tree.specs.declared.expressions.Case.{Case}
use Rattle.abstract_tree.specs.declared.expressions.Expression.{Expression}
use Rattle.abstract_tree.specs.declared.expressions.ObjectField.{ObjectField}
use Rattle.abstract_tree.specs.TreeView.{case, cases, declaration, declarations, expression, fields, listed, object_field}
use Rattle.value_scopes.specs.declared.note.Note.{Note}
use Rattle.desugaring.specs.FreeNames.{in_cases, in_declarations, in_each, in_fields}
use Rattle.judged_parts.specs.Parts.{See, seen_parts}
use Rattle.judged_parts.proofs.TreeViews as V
use Rattle.kernel_names.proofs.Collecting.{all_left_in, found_none, found_within, name_found, none_left_in, one_less_in, same_found, three_found, two_found}
use Rattle.kernel_names.proofs.Forms.{of_case, of_declaration, of_expression, of_member, of_object_field}
use Rattle.kernel_names.proofs.occurring.+occurring.Goals as goal

pub expression_within-returns-in-Nothing : goal.expression_within-returns-in-Nothing
expression_within-returns-in-Nothing t c = λ (see : See). found_none _ _ _ (of_expression see c.args.a.now _ _ _ c.get.ensures (c.parts_of_form.ensures see) (ap (seen_parts see) c.in-Nothing.is))

pub expression_within-returns-in-Name : goal.expression_within-returns-in-Name
expression_within-returns-in-Name t c = λ (see : See). name_found c.push_unless.result _ _ _ _ _ c.push_unless.ensures (of_expression see c.args.a.now _ _ _ c.get.ensures (c.parts_of_form.ensures see) (ap (seen_parts see) c.in-Name.is))

pub expression_within-returns-in-One : goal.expression_within-returns-in-One
expression_within-returns-in-One t c = λ (see : See). same_found c.expression_within.result _ _ _ _ _ _ (c.expression_within.ensures see) (of_expression see c.args.a.now _ _ _ c.get.ensures (c.parts_of_form.ensures see) (ap (seen_parts see) c.in-One.is))

pub expression_within-returns-in-Annotated : goal.expression_within-returns-in-Annotated
expression_within-returns-in-Annotated t c = λ (see : See). same_found c.expression_within-in-Annotated.result _ _ _ _ _ _ (c.expression_within-in-Annotated.ensures see) (of_expression see c.args.a.now _ _ _ c.get.ensures (c.parts_of_form.ensures see) (ap (seen_parts see) c.in-Annotated.is))

pub expression_within-returns-in-Labelled : goal.expression_within-returns-in-Labelled
expression_within-returns-in-Labelled t c = λ (see : See). same_found c.expression_within-in-Labelled.result _ _ _ _ _ _ (c.expression_within-in-Labelled.ensures see) (of_expression see c.args.a.now _ _ _ c.get.ensures (c.parts_of_form.ensures see) (ap (seen_parts see) c.in-Labelled.is))

pub expression_within-returns-in-Subsumed : goal.expression_within-returns-in-Subsumed
expression_within-returns-in-Subsumed t c = λ (see : See). same_found c.expression_within-in-Subsumed.result _ _ _ _ _ _ (c.expression_within-in-Subsumed.ensures see) (of_expression see c.args.a.now _ _ _ c.get.ensures (c.parts_of_form.ensures see) (ap (seen_parts see) c.in-Subsumed.is))

pub expression_within-returns-in-Each : goal.expression_within-returns-in-Each
expression_within-returns-in-Each t c = λ (see : See). same_found c.each_within.result _ _ _ _ _ _ (c.each_within.ensures see) (of_expression see c.args.a.now _ _ _ c.get.ensures (c.parts_of_form.ensures see) (ap (seen_parts see) c.in-Each.is))

pub expression_within-returns-in-Fields : goal.expression_within-returns-in-Fields
expression_within-returns-in-Fields t c = λ (see : See). same_found c.fields_within.result _ _ _ _ _ _ (c.fields_within.ensures see) (of_expression see c.args.a.now _ _ _ c.get.ensures (c.parts_of_form.ensures see) (ap (seen_parts see) c.in-Fields.is))

pub expression_within-returns-in-Declared : goal.expression_within-returns-in-Declared
expression_within-returns-in-Declared t c = λ (see : See). same_found c.block_within.result _ _ _ _ _ _ (c.block_within.ensures see) (of_expression see c.args.a.now _ _ _ c.get.ensures (c.parts_of_form.ensures see) (ap (seen_parts see) c.in-Declared.is))

pub expression_within-returns-in-Function : goal.expression_within-returns-in-Function
expression_within-returns-in-Function t c = λ (see : See). same_found c.function_within.result _ _ _ _ _ _ (rw c.as_slice.ensures at (c.function_within.ensures see)) (of_expression see c.args.a.now _ _ _ c.get.ensures (c.parts_of_form.ensures see) (ap (seen_parts see) c.in-Function.is))

pub expression_within-returns-in_ok-expression_within-in-Two : goal.expression_within-returns-in_ok-expression_within-in-Two
expression_within-returns-in_ok-expression_within-in-Two t c = λ (see : See). two_found c.expression_within-in-Two-2.result _ _ _ _ _ _ _ _ _ (c.in_ok-expression_within-in-Two.ensures see) (c.expression_within-in-Two-2.ensures see) (of_expression see c.args.a.now _ _ _ c.get.ensures (c.parts_of_form.ensures see) (ap (seen_parts see) c.in-Two.is))

pub expression_within-returns-in_ok-expression_within-in-Three-2 : goal.expression_within-returns-in_ok-expression_within-in-Three-2
expression_within-returns-in_ok-expression_within-in-Three-2 t c = λ (see : See). three_found c.expression_within-in-Three-3.result _ _ _ _ _ _ _ _ _ _ _ _ (c.in_ok-expression_within-in-Three.ensures see) (c.in_ok-expression_within-in-Three-2.ensures see) (c.expression_within-in-Three-3.ensures see) (of_expression see c.args.a.now _ _ _ c.get.ensures (c.parts_of_form.ensures see) (ap (seen_parts see) c.in-Three.is))

pub expression_within-returns-in_ok-expression_within-in-Call : goal.expression_within-returns-in_ok-expression_within-in-Call
expression_within-returns-in_ok-expression_within-in-Call t c = λ (see : See). two_found c.each_within-in-Call.result _ _ _ _ _ _ _ _ _ (c.in_ok-expression_within-in-Call.ensures see) (c.each_within-in-Call.ensures see) (of_expression see c.args.a.now _ _ _ c.get.ensures (c.parts_of_form.ensures see) (ap (seen_parts see) c.in-Call.is))

pub expression_within-returns-in_ok-expression_within-in-Switch : goal.expression_within-returns-in_ok-expression_within-in-Switch
expression_within-returns-in_ok-expression_within-in-Switch t c = λ (see : See). two_found c.cases_within.result _ _ _ _ _ _ _ _ _ (c.in_ok-expression_within-in-Switch.ensures see) (c.cases_within.ensures see) (of_expression see c.args.a.now _ _ _ c.get.ensures (c.parts_of_form.ensures see) (ap (seen_parts see) c.in-Switch.is))

pub expression_within-returns-in_ok-expression_within-in-WithPattern : goal.expression_within-returns-in_ok-expression_within-in-WithPattern
expression_within-returns-in_ok-expression_within-in-WithPattern t c = λ (see : See). two_found c.arm_within.result _ _ _ _ _ _ _ _ _ (c.in_ok-expression_within-in-WithPattern.ensures see) (c.arm_within.ensures see) (of_expression see c.args.a.now _ _ _ c.get.ensures (c.parts_of_form.ensures see) (ap (seen_parts see) c.in-WithPattern.is))

pub each_within-loop-item-init : goal.each_within-loop-item-init
each_within-loop-item-init t c = λ (see : See). all_left_in (λ (xs : List (Expression Note)). in_each (listed (map (expression see) xs))) c.args.items.now c.args.bound.now c.args.names.now

pub each_within-loop-item-preserved : goal.each_within-loop-item-preserved
each_within-loop-item-preserved t c = λ (see : See). one_less_in (λ (xs : List (Expression Note)). in_each (listed (map (expression see) xs))) c.args.items.now c.args.bound.now c.args.names.now _ _ _ _ _ _ _ c.loop-item-test.true c.item-item.is (c.in_ok-expression_within.ensures see) refl (c.loop-item.invariant see)

pub each_within-returns : goal.each_within-returns
each_within-returns t c = λ (see : See). none_left_in (λ (xs : List (Expression Note)). in_each (listed (map (expression see) xs))) c.args.items.now c.args.bound.now c.args.names.now _ _ _ c.loop-item-test.false refl (c.loop-item.invariant see)

pub cases_within-loop-one-init : goal.cases_within-loop-one-init
cases_within-loop-one-init t c = λ (see : See). all_left_in (λ (xs : List (Case Note)). in_cases (cases (map (case see) xs))) c.args.list.now c.args.bound.now c.args.names.now

pub cases_within-loop-one-preserved : goal.cases_within-loop-one-preserved
cases_within-loop-one-preserved t c = λ (see : See). one_less_in (λ (xs : List (Case Note)). in_cases (cases (map (case see) xs))) c.args.list.now c.args.bound.now c.args.names.now _ _ _ _ _ _ _ c.loop-one-test.true c.one-item.is (c.in_ok-arm_within.ensures see) (of_case see _ _) (c.loop-one.invariant see)

pub cases_within-returns : goal.cases_within-returns
cases_within-returns t c = λ (see : See). none_left_in (λ (xs : List (Case Note)). in_cases (cases (map (case see) xs))) c.args.list.now c.args.bound.now c.args.names.now _ _ _ c.loop-one-test.false refl (c.loop-one.invariant see)

pub fields_within-loop-field-init : goal.fields_within-loop-field-init
fields_within-loop-field-init t c = λ (see : See). all_left_in (λ (xs : List (ObjectField Note)). in_fields (fields (map (object_field see) xs))) c.args.list.now c.args.bound.now c.args.names.now

pub fields_within-loop-field-preserved : goal.fields_within-loop-field-preserved
fields_within-loop-field-preserved t c = λ (see : See). one_less_in (λ (xs : List (ObjectField Note)). in_fields (fields (map (object_field see) xs))) c.args.list.now c.args.bound.now c.args.names.now _ _ _ _ _ _ _ c.loop-field-test.true c.field-item.is (c.in_ok-expression_within.ensures see) (of_object_field see _ _) (c.loop-field.invariant see)

pub fields_within-returns : goal.fields_within-returns
fields_within-returns t c = λ (see : See). none_left_in (λ (xs : List (ObjectField Note)). in_fields (fields (map (object_field see) xs))) c.args.list.now c.args.bound.now c.args.names.now _ _ _ c.loop-field-test.false refl (c.loop-field.invariant see)

pub list_within-loop-one-init : goal.list_within-loop-one-init
list_within-loop-one-init t c = λ (see : See). all_left_in (λ (xs : List (Declaration Note)). in_declarations (declarations (map (declaration see) xs))) c.args.list.now c.args.bound.now c.args.names.now

pub list_within-loop-one-preserved : goal.list_within-loop-one-preserved
list_within-loop-one-preserved t c = λ (see : See). one_less_in (λ (xs : List (Declaration Note)). in_declarations (declarations (map (declaration see) xs))) c.args.list.now c.args.bound.now c.args.names.now _ _ _ _ _ _ _ c.loop-one-test.true c.one-item.is (rw c.get.ensures at (c.in_ok-declaration_within.ensures see)) (of_member see _ _) (c.loop-one.invariant see)

pub list_within-returns : goal.list_within-returns
list_within-returns t c = λ (see : See). none_left_in (λ (xs : List (Declaration Note)). in_declarations (declarations (map (declaration see) xs))) c.args.list.now c.args.bound.now c.args.names.now _ _ _ c.loop-one-test.false refl (c.loop-one.invariant see)

pub arm_within-returns : goal.arm_within-returns
arm_within-returns t c = λ (see : See). found_within _ _ _ _ _ _ _ _ _ c.len-len.ensures (c.in_ok-enter_pattern.ensures see) (c.in_ok-expression_within.ensures see) c.leave.ensures

pub function_within-returns : goal.function_within-returns
function_within-returns t c = λ (see : See). found_within _ _ _ _ _ _ _ _ _ c.len-len.ensures (c.in_ok-enter_parameters.ensures see) (c.in_ok-expression_within.ensures see) c.leave.ensures

pub block_within-returns : goal.block_within-returns
block_within-returns t c = λ (see : See). found_within _ _ _ _ _ _ _ _ _ c.len-len.ensures (c.in_ok-enter_list.ensures see) (c.in_ok-list_within.ensures see) c.leave.ensures

pub class_within-returns : goal.class_within-returns
class_within-returns t c = λ (see : See). found_within _ _ _ _ _ _ _ _ _ c.len-len.ensures (c.in_ok-enter_parameters.ensures see) (c.in_ok-block_within.ensures see) c.leave.ensures

pub declaration_within-returns-in-Let : goal.declaration_within-returns-in-Let
declaration_within-returns-in-Let t c = λ (see : See). same_found c.expression_within.result _ _ _ _ _ _ (c.expression_within.ensures see) (of_declaration see c.args.form.now _ _ c.in-Let.is (V.seen_Let see _ _))

pub declaration_within-returns-in-Var : goal.declaration_within-returns-in-Var
declaration_within-returns-in-Var t c = λ (see : See). same_found c.expression_within-in-Var.result _ _ _ _ _ _ (c.expression_within-in-Var.ensures see) (of_declaration see c.args.form.now _ _ c.in-Var.is (V.seen_Var see _ _ _ _))

pub declaration_within-returns-in-Evaluate : goal.declaration_within-returns-in-Evaluate
declaration_within-returns-in-Evaluate t c = λ (see : See). same_found c.expression_within-in-Evaluate.result _ _ _ _ _ _ (c.expression_within-in-Evaluate.ensures see) (of_declaration see c.args.form.now _ _ c.in-Evaluate.is (V.seen_Evaluate see _))

pub declaration_within-returns-in-Func : goal.declaration_within-returns-in-Func
declaration_within-returns-in-Func t c = λ (see : See). same_found c.function_within.result _ _ _ _ _ _ (rw c.as_slice.ensures at (c.function_within.ensures see)) (of_declaration see c.args.form.now _ _ c.in-Func.is (V.seen_Func see _ _ _))

pub declaration_within-returns-in-Method : goal.declaration_within-returns-in-Method
declaration_within-returns-in-Method t c = λ (see : See). found_none _ _ _ (of_declaration see c.args.form.now _ _ c.in-Method.is (V.seen_Method see _ _ _ _ _))

pub declaration_within-returns-in-System : goal.declaration_within-returns-in-System
declaration_within-returns-in-System t c = λ (see : See). found_none _ _ _ (of_declaration see c.args.form.now _ _ c.in-System.is (V.seen_System see _ _))

pub declaration_within-returns-in-TypeAlias : goal.declaration_within-returns-in-TypeAlias
declaration_within-returns-in-TypeAlias t c = λ (see : See). found_none _ _ _ (of_declaration see c.args.form.now _ _ c.in-TypeAlias.is (V.seen_TypeAlias see _ _ _))

pub declaration_within-returns-in-Class : goal.declaration_within-returns-in-Class
declaration_within-returns-in-Class t c = λ (see : See). same_found c.class_within.result _ _ _ _ _ _ (rw (c.as_slice-in-Class.ensures, c.as_slice-in-Class-2.ensures) at (c.class_within.ensures see)) (of_declaration see c.args.form.now _ _ c.in-Class.is (V.seen_Class see _ _ _))

pub declaration_within-returns-in-NamedObject : goal.declaration_within-returns-in-NamedObject
declaration_within-returns-in-NamedObject t c = λ (see : See). same_found c.block_within.result _ _ _ _ _ _ (rw c.as_slice-in-NamedObject.ensures at (c.block_within.ensures see)) (of_declaration see c.args.form.now _ _ c.in-NamedObject.is (V.seen_NamedObject see _ _))
