use Rattle.std.proofs.Common.{Err, Ok, ap}
use Rattle.abstract_types.specs.TypeView.{named}
use Rattle.judging.proofs.Chains.{no_memory}
use Rattle.function_bodies.specs.Bodies.{any_made, body_in}
use Rattle.function_bodies.proofs.First.{sound_here}
use Rattle.class_bodies.proofs.Finished.{class_given, class_not, parts_there}
use Rattle.class_bodies.proofs.classes.class_within.Goals as goal

pub class_parts-requires-clause-sound : goal.class_parts-requires-clause-sound
class_parts-requires-clause-sound g c = sound_here c.args.scopes.now c.args.checker.now c.class_type.new.types c.in_ok-kind.ensures.same c.requires.sound

pub returns-in_err-copy : goal.returns-in_err-copy
returns-in_err-copy g c rest = no_memory (body_in rest) any_made _ c.args.scopes.now _ c.args.checker.now _ c.from_residual.result c.from_residual.ensures

pub returns-in_err-kind : goal.returns-in_err-kind
returns-in_err-kind g c rest = no_memory (body_in rest) any_made _ c.args.scopes.now _ c.args.checker.now _ c.from_residual-in_err-kind.result c.from_residual-in_err-kind.ensures

pub returns-in_err-made : goal.returns-in_err-made
returns-in_err-made g c rest =
    class_not c.args.lists.now.layer.site.place c.args.at (named c.args.name.now) c.args.signature.now c.args.list.now rest c.args.scopes.now c.args.checker.now c.class_type.new.types c.in_ok-kind.kind c.in_ok-kind.ensures
    c.class_parts.new.scopes c.class_parts.new.checker c.in_err-made.field-0.0 c.from_residual-in_err-made.result c.from_residual-in_err-made.ensures
    (parts_there c.args.lists.now.layer.site.place c.args.at c.args.list.now c.as_slice-parameters.result.now c.args.signature.now.parameters c.args.scopes.now c.class_parts.new.scopes (record c.args.checker.now { types = c.class_type.new.types }) c.class_parts.new.checker (Err c.in_err-made.field-0.0) c.as_slice-parameters.ensures c.in_err-made.ensures)

pub returns-in_err-signature : goal.returns-in_err-signature
returns-in_err-signature g c rest = no_memory (body_in rest) any_made _ c.args.scopes.now _ c.args.checker.now _ c.from_residual-in_err-signature.result c.from_residual-in_err-signature.ensures

pub returns : goal.returns
returns g c rest =
    class_given c.args.lists.now.layer.site.place c.args.at (named c.args.name.now) c.args.signature.now c.args.list.now rest c.args.scopes.now c.args.checker.now c.class_type.new.types c.in_ok-kind.kind c.in_ok-kind.ensures
    c.class_parts.new.scopes c.class_parts.new.checker c.in_ok-made.made
    (parts_there c.args.lists.now.layer.site.place c.args.at c.args.list.now c.as_slice-parameters.result.now c.args.signature.now.parameters c.args.scopes.now c.class_parts.new.scopes (record c.args.checker.now { types = c.class_type.new.types }) c.class_parts.new.checker (Ok c.in_ok-made.made) c.as_slice-parameters.ensures c.in_ok-made.ensures)
    c.into_parts-kinds.result c.into_parts-kinds.ensures c.in_ok-copy.copy (ap named c.in_ok-copy.ensures) c.in_ok-signature.signature c.in_ok-signature.ensures
