use Rattle.std.proofs.Common.{◌∙◌, ap, sym}
use Rattle.abstract_tree.specs.TreeView.{declaration_form}
use Rattle.judged_parts.specs.Parts.{See}
use Rattle.judged_parts.proofs.TreeViews as V
use Rattle.kernel_roles.specs.Roles.{role_of}
use Rattle.kernel_roles.proofs.roles.actor_role.Goals as goal

pub returns-in-Let : goal.returns-in-Let
returns-in-Let c = λ (see : See). sym (ap role_of (ap (declaration_form see) c.in-Let.is ∙ V.seen_Let see _ _))

pub returns-in-Var : goal.returns-in-Var
returns-in-Var c = λ (see : See). c.variable.ensures see ∙ sym (ap role_of (ap (declaration_form see) c.in-Var.is ∙ V.seen_Var see _ _ _ _))

pub returns-in-Func : goal.returns-in-Func
returns-in-Func c = λ (see : See). sym (ap role_of (ap (declaration_form see) c.in-Func.is ∙ V.seen_Func see _ _ _))

pub returns-in-Method : goal.returns-in-Method
returns-in-Method c = λ (see : See). sym (ap role_of (ap (declaration_form see) c.in-Method.is ∙ V.seen_Method see _ _ _ _ _))

pub returns-in-System : goal.returns-in-System
returns-in-System c = λ (see : See). sym (ap role_of (ap (declaration_form see) c.in-System.is ∙ V.seen_System see _ _))

pub returns-in-TypeAlias : goal.returns-in-TypeAlias
returns-in-TypeAlias c = λ (see : See). sym (ap role_of (ap (declaration_form see) c.in-TypeAlias.is ∙ V.seen_TypeAlias see _ _ _))

pub returns-in-Class : goal.returns-in-Class
returns-in-Class c = λ (see : See). sym (ap role_of (ap (declaration_form see) c.in-Class.is ∙ V.seen_Class see _ _ _))

pub returns-in-NamedObject : goal.returns-in-NamedObject
returns-in-NamedObject c = λ (see : See). sym (ap role_of (ap (declaration_form see) c.in-NamedObject.is ∙ V.seen_NamedObject see _ _))

pub returns-in-Evaluate : goal.returns-in-Evaluate
returns-in-Evaluate c = λ (see : See). sym (ap role_of (ap (declaration_form see) c.in-Evaluate.is ∙ V.seen_Evaluate see _))
