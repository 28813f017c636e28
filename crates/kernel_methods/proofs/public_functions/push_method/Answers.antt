use Rattle.std.proofs.Common.{◌∙◌, [], ◌∷◌, ap, refl}
use Rattle.typed_tree.specs.declared.program.Method.{Method}
use Rattle.typing_rules.specs.AbstractSyntax.{Bytes}
use Rattle.type_definitions.specs.Meanings.{term}
use Rattle.abstract_tree.specs.TreeView.{declaration_form}
use Rattle.value_scopes.specs.Values.{noted}
use Rattle.kernel_roles.specs.Roles.{role_of}
use Rattle.kernel_methods.specs.Methods.{method_in, methods_at}
use Rattle.kernel_methods.proofs.Adding.{added_as, shared_as, stays}
use Rattle.kernel_methods.proofs.public_functions.push_method.Goals as goal

pub method-requires-clause-shared : goal.method-requires-clause-shared
method-requires-clause-shared g c =
    let s = c.args.layer.now.types.now in
    shared_as (term s.forms c.args.note.kind) _ (role_of (declaration_form (noted s.forms) c.args.form.now)) (c.in-Method.ensures (noted s.forms)) c.requires.shared

pub returns-in_ok-one-in-Method-clause-made : goal.returns-in_ok-one-in-Method-clause-made
returns-in_ok-one-in-Method-clause-made g c =
    let s = c.args.layer.now.types.now in
    added_as (methods_at s c.args.frames.now (term s.forms c.args.note.kind)) _ (role_of (declaration_form (noted s.forms) c.args.form.now)) c.args.made.now c.push.new.self (c.in-Method.ensures (noted s.forms)) c.push.result (c.in_ok-one-in-Method.one ∷ [])
    (ap (λ (z : Method). z ∷ []) (c.in_ok-one-in-Method.ensures.made ∙ ap (λ (x : Bytes). method_in s c.args.frames.now c.args.note.kind c.in-Method.query c.in-Method.context.now x c.in-Method.of.now c.in-Method.body.now) c.as_slice.ensures)) c.push.ensures.ok

pub returns-in-System-clause-made : goal.returns-in-System-clause-made
returns-in-System-clause-made g c =
    let s = c.args.layer.now.types.now in
    stays (methods_at s c.args.frames.now (term s.forms c.args.note.kind)) _ (role_of (declaration_form (noted s.forms) c.args.form.now)) c.args.made.now (c.in-System.ensures (noted s.forms)) refl

pub returns-in-Stable-clause-made : goal.returns-in-Stable-clause-made
returns-in-Stable-clause-made g c =
    let s = c.args.layer.now.types.now in
    stays (methods_at s c.args.frames.now (term s.forms c.args.note.kind)) _ (role_of (declaration_form (noted s.forms) c.args.form.now)) c.args.made.now (c.in-Stable.ensures (noted s.forms)) refl

pub returns-in-Function-clause-made : goal.returns-in-Function-clause-made
returns-in-Function-clause-made g c =
    let s = c.args.layer.now.types.now in
    stays (methods_at s c.args.frames.now (term s.forms c.args.note.kind)) _ (role_of (declaration_form (noted s.forms) c.args.form.now)) c.args.made.now (c.in-Function.ensures (noted s.forms)) refl

pub returns-in-Other-clause-made : goal.returns-in-Other-clause-made
returns-in-Other-clause-made g c =
    let s = c.args.layer.now.types.now in
    stays (methods_at s c.args.frames.now (term s.forms c.args.note.kind)) _ (role_of (declaration_form (noted s.forms) c.args.form.now)) c.args.made.now (c.in-Other.ensures (noted s.forms)) refl
