use Rattle.std.proofs.Common.{◌∙◌, [], ◌∷◌, ap, refl}
use Rattle.typing_rules.specs.AbstractSyntax.{Bytes}
use Rattle.typed_tree.specs.declared.program.StableVariable.{StableVariable}
use Rattle.abstract_tree.specs.TreeView.{declaration_form}
use Rattle.value_scopes.specs.Values.{noted}
use Rattle.kernel_roles.specs.Roles.{role_of}
use Rattle.kernel_outside.specs.Parts.{stable_in, variable_in}
use Rattle.kernel_outside.proofs.Adding.{added_as, stays}
use Rattle.kernel_outside.proofs.stable.push_variable.Goals as goal

pub returns-in-Method : goal.returns-in-Method
returns-in-Method c = stays (stable_in c.args.types.now c.args.frames.now c.args.note) _ (role_of (declaration_form (noted c.args.types.now.forms) c.args.form.now)) c.args.made.now (c.in-Method.ensures (noted c.args.types.now.forms)) refl

pub returns-in-System : goal.returns-in-System
returns-in-System c = stays (stable_in c.args.types.now c.args.frames.now c.args.note) _ (role_of (declaration_form (noted c.args.types.now.forms) c.args.form.now)) c.args.made.now (c.in-System.ensures (noted c.args.types.now.forms)) refl

pub returns-in-Function : goal.returns-in-Function
returns-in-Function c = stays (stable_in c.args.types.now c.args.frames.now c.args.note) _ (role_of (declaration_form (noted c.args.types.now.forms) c.args.form.now)) c.args.made.now (c.in-Function.ensures (noted c.args.types.now.forms)) refl

pub returns-in-Other : goal.returns-in-Other
returns-in-Other c = stays (stable_in c.args.types.now c.args.frames.now c.args.note) _ (role_of (declaration_form (noted c.args.types.now.forms) c.args.form.now)) c.args.made.now (c.in-Other.ensures (noted c.args.types.now.forms)) refl

pub returns-in_ok-one-in-Stable : goal.returns-in_ok-one-in-Stable
returns-in_ok-one-in-Stable c =
    added_as (stable_in c.args.types.now c.args.frames.now c.args.note) _ (role_of (declaration_form (noted c.args.types.now.forms) c.args.form.now)) c.args.made.now c.push.new.self (c.in-Stable.ensures (noted c.args.types.now.forms)) c.push.result (c.in_ok-one-in-Stable.one ∷ [])
    (ap (λ (z : StableVariable). z ∷ []) (c.in_ok-one-in-Stable.ensures ∙ ap (λ (x : Bytes). variable_in c.args.types.now c.args.frames.now c.args.note.kind x) c.as_slice.ensures)) c.push.ensures.ok
