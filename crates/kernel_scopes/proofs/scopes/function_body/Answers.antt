use Rattle.std.proofs.Common.{◌∙◌, List, [], ◌∷◌, ap}
use Rattle.desugaring.specs.Frames.{Exit, Frame, Returned, in_function, with_names}
use Rattle.kernel_frames.specs.Places.{frame}
use Rattle.kernel_nodes.proofs.Rolling.{if_same}
use Rattle.kernel_parts.specs.Views.{tree_of}
use Rattle.kernel_scopes.specs.Bound.{parameters_of}
use Rattle.kernel_scopes.proofs.Around.{entered_function}
use Rattle.kernel_scopes.proofs.scopes.function_body.Goals as goal

pub returns-clause-made : goal.returns-clause-made
returns-clause-made g c =
    if_same c.with_parameters-made.result (tree_of c.args.layer.now.types.now (with_names (parameters_of c.args.layer.now.types.now c.args.parameters.now) c.enter_function.new.self) c.args.body.now) (tree_of c.args.layer.now.types.now (in_function (parameters_of c.args.layer.now.types.now c.args.parameters.now) c.args.frames.now) c.args.body.now)
    (ap (λ (f : Frame). tree_of c.args.layer.now.types.now (with_names (parameters_of c.args.layer.now.types.now c.args.parameters.now) f) c.args.body.now) c.in_ok-outer.ensures.1) c.with_parameters-made.ensures.made

pub returns-clause-same : goal.returns-clause-same
returns-clause-same g c =
    entered_function c.with_parameters-made.result c.args.frames.now c.enter_function.new.self c.with_parameters-made.new.frames c.leave_function.new.self (Returned ∷ []) c.in_ok-outer.ensures.1 c.with_parameters-made.ensures.same
    (c.leave_function.ensures ∙ ap (λ (es : List Exit). frame c.with_parameters-made.new.frames.names es) c.in_ok-outer.ensures.0)
