use Rattle.std.proofs.Common.{refl}
use Rattle.abstract_tree.specs.declared.declarations.Declaration.{Declaration}
use Rattle.value_scopes.specs.declared.note.Note.{Note}
use Rattle.value_scopes.specs.Values.{noted}
use Rattle.desugaring.specs.Programs as programs
use Rattle.kernel_types.specs.Numbers.{definitions, number}
use Rattle.kernel_parts.specs.Views.{list_in}
use Rattle.kernel_roles.specs.Roles.{role_in}
use Rattle.kernel_roles.proofs.Walking.{added, all_added, begun}
use Rattle.kernel_outside.specs.Parts.{stable_in}
use Rattle.kernel_outside.proofs.Adding.{variables_next}
use Rattle.kernel_outside.proofs.stable.stable_variables.Goals as goal

pub loop-one-init : goal.loop-one-init
loop-one-init c = let s = c.args.types.now in begun (noted s.forms) (programs.stable_of (definitions s) (number s) c.args.frames.now) c.args.fields.now c.new-made.result c.new-made.ensures

pub loop-one-preserved : goal.loop-one-preserved
loop-one-preserved c =
    let s = c.args.types.now in
    let f = c.args.frames.now in
    added (noted s.forms) (programs.stable_of (definitions s) (number s) f) (λ (d : Declaration Note). stable_in s f d.note (role_in (noted s.forms) d)) (variables_next s f) c.args.fields.now c.loop-one.one-index c.one-item.result c.loop-one.made c.push_variable.new.made
    (programs.stable_of (definitions s) (number s) f (list_in s c.args.fields.now)) c.loop-one-test.true c.one-item.is c.loop-one.invariant (rw c.get.ensures at c.in_ok-push_variable.ensures)

pub returns : goal.returns
returns c =
    let s = c.args.types.now in
    let f = c.args.frames.now in
    all_added (noted s.forms) (programs.stable_of (definitions s) (number s) f) c.args.fields.now c.loop-one.one-index c.loop-one.made (programs.stable_of (definitions s) (number s) f (list_in s c.args.fields.now)) refl c.loop-one-test.false c.loop-one.invariant
