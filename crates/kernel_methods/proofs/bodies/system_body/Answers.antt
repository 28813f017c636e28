use Rattle.std.proofs.Common.{◌∙◌, List, [], ◌∷◌, ap}
use Rattle.desugaring.specs.Frames.{Exit, Frame, Returned, in_function}
use Rattle.kernel_frames.specs.Places.{frame}
use Rattle.kernel_methods.proofs.Same.{if_same}
use Rattle.kernel_parts.specs.Views.{tree_of}
use Rattle.kernel_methods.proofs.Around.{entered}
use Rattle.kernel_methods.proofs.bodies.system_body.Goals as goal

pub returns-clause-made : goal.returns-clause-made
returns-clause-made g c =
    let s = c.args.layer.now.types.now in
    if_same c.part-made.result (tree_of s c.enter_function.new.self c.args.body.now) (tree_of s (in_function [] c.args.frames.now) c.args.body.now) (ap (λ (f : Frame). tree_of s f c.args.body.now) c.in_ok-outer.ensures.1) c.part-made.ensures.made

pub returns-clause-same : goal.returns-clause-same
returns-clause-same g c =
    entered c.part-made.result c.args.frames.now c.enter_function.new.self c.part-made.new.frames c.leave_function.new.self (Returned ∷ []) c.in_ok-outer.ensures.1 c.part-made.ensures.same
    (c.leave_function.ensures ∙ ap (λ (es : List Exit). frame c.part-made.new.frames.names es) c.in_ok-outer.ensures.0)
