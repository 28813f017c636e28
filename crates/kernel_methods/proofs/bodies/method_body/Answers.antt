use Rattle.std.proofs.Common.{◌∙◌, List, [], ◌∷◌, ap}
use Rattle.value_scopes.specs.Values.{noted}
use Rattle.desugaring.specs.Frames.{Exit, Frame, Returned}
use Rattle.kernel_frames.specs.Places.{frame}
use Rattle.kernel_methods.proofs.Same.{if_same}
use Rattle.kernel_parts.specs.Views.{tree_of}
use Rattle.kernel_methods.specs.Methods.{body_in, with_method_names}
use Rattle.kernel_methods.proofs.Around.{entered}
use Rattle.kernel_methods.proofs.bodies.method_body.Goals as goal

pub returns-clause-made : goal.returns-clause-made
returns-clause-made g c =
    let s = c.args.layer.now.types.now in
    if_same c.with_method-made.result (tree_of s (with_method_names (noted s.forms) c.args.context.now c.args.parameters.now c.enter_function.new.self) c.args.body.now) (body_in s c.args.frames.now c.args.context.now c.args.parameters.now c.args.body.now)
    (ap (λ (f : Frame). tree_of s (with_method_names (noted s.forms) c.args.context.now c.args.parameters.now f) c.args.body.now) c.in_ok-outer.ensures.1) c.with_method-made.ensures.made

pub returns-clause-same : goal.returns-clause-same
returns-clause-same g c =
    entered c.with_method-made.result c.args.frames.now c.enter_function.new.self c.with_method-made.new.frames c.leave_function.new.self (Returned ∷ []) c.in_ok-outer.ensures.1 c.with_method-made.ensures.same
    (c.leave_function.ensures ∙ ap (λ (es : List Exit). frame c.with_method-made.new.frames.names es) c.in_ok-outer.ensures.0)
