use Rattle.std.proofs.Common.{◌∙◌, Some, None, ap, cond, refl}
use Rattle.std.specs.Str.{bytes_eq}
use Rattle.typing_rules.specs.AbstractSyntax.{Bytes}
use Rattle.abstract_tree.specs.TreeView.{declaration_form, expression}
use Rattle.judged_parts.specs.Parts.{See}
use Rattle.kernel_roles.specs.Roles.{role_of}
use Rattle.kernel_methods.specs.Methods.{body_at}
use Rattle.kernel_methods.proofs.Found.{none_as}
use Rattle.kernel_methods.proofs.system_functions.body_of.Goals as goal

pub returns-in-Method : goal.returns-in-Method
returns-in-Method c = λ (see : See). none_as c.args.name.now _ (role_of (declaration_form see c.args.form.now)) (c.in-Method.ensures see) refl

pub returns-in-Stable : goal.returns-in-Stable
returns-in-Stable c = λ (see : See). none_as c.args.name.now _ (role_of (declaration_form see c.args.form.now)) (c.in-Stable.ensures see) refl

pub returns-in-Function : goal.returns-in-Function
returns-in-Function c = λ (see : See). none_as c.args.name.now _ (role_of (declaration_form see c.args.form.now)) (c.in-Function.ensures see) refl

pub returns-in-Other : goal.returns-in-Other
returns-in-Other c = λ (see : See). none_as c.args.name.now _ (role_of (declaration_form see c.args.form.now)) (c.in-Other.ensures see) refl

pub returns-in-System : goal.returns-in-System
returns-in-System c = λ (see : See).
    c.named.ensures see
    ∙ (ap (λ (y : Bytes). cond (bytes_eq y c.args.name.now) (Some (expression see c.in-System.body.now)) None) c.as_slice.ensures ∙ ap (body_at c.args.name.now) (c.in-System.ensures see))
