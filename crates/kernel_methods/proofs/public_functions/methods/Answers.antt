use Rattle.std.proofs.Common.{◌∙◌, ◌++◌, ap, refl, subst, sym}
use Rattle.type_definitions.specs.Meanings.{term}
use Rattle.abstract_tree.specs.declared.declarations.Declaration.{Declaration}
use Rattle.abstract_tree.specs.declared.declarations.DeclarationForm.{DeclarationForm}
use Rattle.abstract_tree.specs.TreeView.{declaration_form}
use Rattle.value_scopes.specs.declared.note.Note.{Note}
use Rattle.value_scopes.specs.Values.{noted}
use Rattle.desugaring.specs.Frames.{Frame}
use Rattle.desugaring.specs.Programs as programs
use Rattle.kernel_types.specs.Numbers.{definitions, number}
use Rattle.kernel_parts.specs.Views.{list_in}
use Rattle.kernel_roles.specs.Roles.{role_in, role_of}
use Rattle.kernel_roles.proofs.Walking.{added, all_added, begun}
use Rattle.kernel_methods.specs.Methods.{methods_at}
use Rattle.kernel_methods.specs.Shared.{HasShared, SharedIn}
use Rattle.kernel_methods.proofs.Adding.{methods_next}
use Rattle.kernel_methods.proofs.Typed.{each_at}
use Rattle.kernel_methods.proofs.public_functions.methods.Goals as goal

pub loop-one-init : goal.loop-one-init
loop-one-init g c =
    let s = c.args.layer.now.types.now in
    record {
      made = begun (noted s.forms) (programs.methods_of (definitions s) (number s) c.args.frames.now) c.args.fields.now c.new-made.result c.new-made.ensures;
      same = refl;
    }

pub push_method-requires-clause-shared : goal.push_method-requires-clause-shared
push_method-requires-clause-shared g c =
    let s = c.args.layer.now.types.now in
    subst (λ (z : DeclarationForm Note). HasShared (term s.forms c.one-item.result.note.kind) (role_of (declaration_form (noted s.forms) z))) (sym c.get.ensures)
    (each_at (SharedIn s) c.args.fields.now c.loop-one.one-index c.one-item.result c.loop-one-test.true c.one-item.is c.requires.shared)

pub loop-one-preserved : goal.loop-one-preserved
loop-one-preserved g c =
    let s = c.args.layer.now.types.now in
    let f = c.args.frames.now in
    let kind = c.one-item.result.note.kind in
    record {
      made = added (noted s.forms) (programs.methods_of (definitions s) (number s) f) (λ (d : Declaration Note). methods_at s f (term s.forms d.note.kind) (role_in (noted s.forms) d)) (methods_next s f) c.args.fields.now c.loop-one.one-index c.one-item.result c.loop-one.made c.push_method.new.made
          (programs.methods_of (definitions s) (number s) f (list_in s c.args.fields.now)) c.loop-one-test.true c.one-item.is c.loop-one.invariant.made
          (c.in_ok-push_method.ensures.made
          ∙ (ap (λ (z : DeclarationForm Note). c.loop-one.made ++ methods_at s c.loop-one.frames (term s.forms kind) (role_of (declaration_form (noted s.forms) z))) c.get.ensures
          ∙ ap (λ (z : Frame). c.loop-one.made ++ methods_at s z (term s.forms kind) (role_in (noted s.forms) c.one-item.result)) c.loop-one.invariant.same));
      same = c.in_ok-push_method.ensures.same ∙ c.loop-one.invariant.same;
    }

pub returns-clause-made : goal.returns-clause-made
returns-clause-made g c =
    let s = c.args.layer.now.types.now in
    let f = c.args.frames.now in
    all_added (noted s.forms) (programs.methods_of (definitions s) (number s) f) c.args.fields.now c.loop-one.one-index c.loop-one.made (programs.methods_of (definitions s) (number s) f (list_in s c.args.fields.now)) refl c.loop-one-test.false c.loop-one.invariant.made
