use Rattle.type_definitions.specs.Meanings.{term}
use Rattle.abstract_tree.specs.TreeView.{declaration_form}
use Rattle.value_scopes.specs.Values.{noted}
use Rattle.kernel_roles.specs.Roles.{role_of}
use Rattle.kernel_methods.proofs.Adding.{as_shared}
use Rattle.kernel_methods.proofs.shared.has_shared.Goals as goal

pub returns-in-Method : goal.returns-in-Method
returns-in-Method c = λ h. as_shared (term c.args.types.now.forms c.args.note.kind) _ (role_of (declaration_form (noted c.args.types.now.forms) c.args.form.now)) (c.in-Method.ensures (noted c.args.types.now.forms)) (c.is_shared_type.ensures h)

pub returns-in-System : goal.returns-in-System
returns-in-System c = λ h. as_shared (term c.args.types.now.forms c.args.note.kind) _ (role_of (declaration_form (noted c.args.types.now.forms) c.args.form.now)) (c.in-System.ensures (noted c.args.types.now.forms)) tt

pub returns-in-Stable : goal.returns-in-Stable
returns-in-Stable c = λ h. as_shared (term c.args.types.now.forms c.args.note.kind) _ (role_of (declaration_form (noted c.args.types.now.forms) c.args.form.now)) (c.in-Stable.ensures (noted c.args.types.now.forms)) tt

pub returns-in-Function : goal.returns-in-Function
returns-in-Function c = λ h. as_shared (term c.args.types.now.forms c.args.note.kind) _ (role_of (declaration_form (noted c.args.types.now.forms) c.args.form.now)) (c.in-Function.ensures (noted c.args.types.now.forms)) tt

pub returns-in-Other : goal.returns-in-Other
returns-in-Other c = λ h. as_shared (term c.args.types.now.forms c.args.note.kind) _ (role_of (declaration_form (noted c.args.types.now.forms) c.args.form.now)) (c.in-Other.ensures (noted c.args.types.now.forms)) tt
