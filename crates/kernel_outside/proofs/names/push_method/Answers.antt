use Rattle.std.proofs.Common.{◌∙◌, [], ◌∷◌, ap, refl}
use Rattle.typing_rules.specs.AbstractSyntax.{Bytes}
use Rattle.abstract_tree.specs.TreeView.{declaration_form}
use Rattle.judged_parts.specs.Parts.{See}
use Rattle.kernel_roles.specs.Roles.{role_of}
use Rattle.kernel_outside.specs.Parts.{method_name}
use Rattle.kernel_outside.proofs.Adding.{added_as, stays}
use Rattle.kernel_outside.proofs.names.push_method.Goals as goal

pub returns-in_ok-copy-in-Method : goal.returns-in_ok-copy-in-Method
returns-in_ok-copy-in-Method c = λ (see : See).
    added_as method_name _ (role_of (declaration_form see c.args.form.now)) c.args.names.now c.push.new.self (c.in-Method.ensures see) c.push.result (c.in_ok-copy-in-Method.copy ∷ []) (ap (λ (x : Bytes). x ∷ []) (c.in_ok-copy-in-Method.ensures ∙ c.as_slice.ensures)) c.push.ensures.ok

pub returns-in-System : goal.returns-in-System
returns-in-System c = λ (see : See). stays method_name _ (role_of (declaration_form see c.args.form.now)) c.args.names.now (c.in-System.ensures see) refl

pub returns-in-Stable : goal.returns-in-Stable
returns-in-Stable c = λ (see : See). stays method_name _ (role_of (declaration_form see c.args.form.now)) c.args.names.now (c.in-Stable.ensures see) refl

pub returns-in-Function : goal.returns-in-Function
returns-in-Function c = λ (see : See). stays method_name _ (role_of (declaration_form see c.args.form.now)) c.args.names.now (c.in-Function.ensures see) refl

pub returns-in-Other : goal.returns-in-Other
returns-in-Other c = λ (see : See). stays method_name _ (role_of (declaration_form see c.args.form.now)) c.args.names.now (c.in-Other.ensures see) refl
