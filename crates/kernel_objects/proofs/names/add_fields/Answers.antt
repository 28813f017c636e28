use Rattle.std.proofs.Common.{ap, ◌∙◌}
use Rattle.abstract_tree.specs.TreeView.{declaration_form}
use Rattle.desugaring.specs.FreeNames.{field_names}
use Rattle.judged_parts.specs.Parts.{See}
use Rattle.judged_parts.proofs.TreeViews as V
use Rattle.kernel_objects.proofs.Collected.{none_more, of_fields, same_more}
use Rattle.kernel_objects.proofs.names.add_fields.Goals as goal

pub returns-in-Let : goal.returns-in-Let
returns-in-Let c = λ (see : See). same_more c.pattern_names.result _ _ _ _ (c.pattern_names.ensures see) (ap (λ z. field_names (declaration_form see z)) c.in-Let.is ∙ of_fields see _ _ (V.seen_Let see _ _))

pub returns-in-Var : goal.returns-in-Var
returns-in-Var c = λ (see : See). same_more c.push_copy.result _ _ _ _ (rw c.as_slice.ensures at c.push_copy.ensures) (ap (λ z. field_names (declaration_form see z)) c.in-Var.is ∙ of_fields see _ _ (V.seen_Var see _ _ _ _))

pub returns-in-Func : goal.returns-in-Func
returns-in-Func c = λ (see : See). same_more c.push_copy-in-Func.result _ _ _ _ (rw c.as_slice-in-Func.ensures at c.push_copy-in-Func.ensures) (ap (λ z. field_names (declaration_form see z)) c.in-Func.is ∙ of_fields see _ _ (V.seen_Func see _ _ _))

pub returns-in-Class : goal.returns-in-Class
returns-in-Class c = λ (see : See). same_more c.push_copy-in-Class.result _ _ _ _ (rw c.as_slice-in-Class.ensures at c.push_copy-in-Class.ensures) (ap (λ z. field_names (declaration_form see z)) c.in-Class.is ∙ of_fields see _ _ (V.seen_Class see _ _ _))

pub returns-in-Method : goal.returns-in-Method
returns-in-Method c = λ (see : See). none_more _ _ (ap (λ z. field_names (declaration_form see z)) c.in-Method.is ∙ of_fields see _ _ (V.seen_Method see _ _ _ _ _))

pub returns-in-System : goal.returns-in-System
returns-in-System c = λ (see : See). none_more _ _ (ap (λ z. field_names (declaration_form see z)) c.in-System.is ∙ of_fields see _ _ (V.seen_System see _ _))

pub returns-in-TypeAlias : goal.returns-in-TypeAlias
returns-in-TypeAlias c = λ (see : See). none_more _ _ (ap (λ z. field_names (declaration_form see z)) c.in-TypeAlias.is ∙ of_fields see _ _ (V.seen_TypeAlias see _ _ _))

pub returns-in-NamedObject : goal.returns-in-NamedObject
returns-in-NamedObject c = λ (see : See). none_more _ _ (ap (λ z. field_names (declaration_form see z)) c.in-NamedObject.is ∙ of_fields see _ _ (V.seen_NamedObject see _ _))

pub returns-in-Evaluate : goal.returns-in-Evaluate
returns-in-Evaluate c = λ (see : See). none_more _ _ (ap (λ z. field_names (declaration_form see z)) c.in-Evaluate.is ∙ of_fields see _ _ (V.seen_Evaluate see _))
