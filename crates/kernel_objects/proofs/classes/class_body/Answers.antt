use Rattle.std.proofs.Common.{◌∙◌, List, [], ◌∷◌, ap}
use Rattle.desugaring.specs.Frames.{Exit, Frame, Returned, in_function, with_names}
use Rattle.kernel_frames.specs.Places.{frame}
use Rattle.kernel_nodes.proofs.Rolling.{if_same}
use Rattle.kernel_scopes.specs.Bound.{parameters_of}
use Rattle.kernel_scopes.proofs.Around.{entered_function}
use Rattle.kernel_objects.specs.Objects.{object_in}
use Rattle.kernel_objects.proofs.classes.class_body.Goals as goal

pub returns-clause-made : goal.returns-clause-made
returns-clause-made g c =
    if_same c.class_object-made.result (object_in c.args.lists.now.layer.types.now (with_names (parameters_of c.args.lists.now.layer.types.now c.args.of.now.parameters) c.enter_function.new.self) c.args.note.kind c.args.fields.now) (object_in c.args.lists.now.layer.types.now (in_function (parameters_of c.args.lists.now.layer.types.now c.args.of.now.parameters) c.args.frames.now) c.args.note.kind c.args.fields.now)
    (ap (λ (f : Frame). object_in c.args.lists.now.layer.types.now (with_names (parameters_of c.args.lists.now.layer.types.now c.args.of.now.parameters) f) c.args.note.kind c.args.fields.now) c.in_ok-outer.ensures.1) c.class_object-made.ensures.made

pub returns-clause-same : goal.returns-clause-same
returns-clause-same g c =
    entered_function c.class_object-made.result c.args.frames.now c.enter_function.new.self c.class_object-made.new.frames c.leave_function.new.self (Returned ∷ []) c.in_ok-outer.ensures.1 c.class_object-made.ensures.same
    (c.leave_function.ensures ∙ ap (λ (es : List Exit). frame c.class_object-made.new.frames.names es) c.in_ok-outer.ensures.0)
