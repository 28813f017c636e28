use Rattle.std.proofs.Common.{refl}
use Rattle.abstract_tree.specs.declared.declarations.Declaration.{Declaration}
use Rattle.value_scopes.specs.declared.note.Note.{Note}
use Rattle.judged_parts.specs.Parts.{See}
use Rattle.desugaring.specs.Programs as programs
use Rattle.kernel_roles.specs.Roles.{list_seen, role_in}
use Rattle.kernel_roles.proofs.Walking.{added, all_added, begun}
use Rattle.kernel_outside.specs.Parts.{method_name}
use Rattle.kernel_outside.proofs.Adding.{methods_next}
use Rattle.kernel_outside.proofs.names.method_names.Goals as goal

pub loop-one-init : goal.loop-one-init
loop-one-init c = λ (see : See). begun see programs.method_names c.args.fields.now c.new-names.result c.new-names.ensures

pub loop-one-preserved : goal.loop-one-preserved
loop-one-preserved c = λ (see : See).
    added see programs.method_names (λ (d : Declaration Note). method_name (role_in see d)) (methods_next see) c.args.fields.now c.loop-one.one-index c.one-item.result c.loop-one.names c.push_method.new.names (programs.method_names (list_seen see c.args.fields.now)) c.loop-one-test.true c.one-item.is
    (c.loop-one.invariant see) (rw c.get.ensures at (c.in_ok-push_method.ensures see))

pub returns : goal.returns
returns c = λ (see : See). all_added see programs.method_names c.args.fields.now c.loop-one.one-index c.loop-one.names (programs.method_names (list_seen see c.args.fields.now)) refl c.loop-one-test.false (c.loop-one.invariant see)
