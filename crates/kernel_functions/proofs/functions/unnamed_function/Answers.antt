use Rattle.std.proofs.Common.{◌∙◌, ap}
use Rattle.desugaring.specs.Frames.{Frame}
use Rattle.kernel_functions.specs.Functions.{function_in}
use Rattle.kernel_functions.proofs.Made.{back, cuts}
use Rattle.kernel_functions.proofs.functions.unnamed_function.Goals as goal

pub truncate-requires : goal.truncate-requires
truncate-requires g c = cuts c.args.frames.now c.push_unnamed.new.self c.function_value.new.frames c.in_ok-push_unnamed.ensures c.in_ok-made.ensures.same c.mark-mark.result c.mark-mark.ensures

pub returns-clause-made : goal.returns-clause-made
returns-clause-made g c = c.in_ok-made.ensures.made ∙ ap (λ (f : Frame). function_in c.args.layer.now.types.now f c.args.of.now c.args.body.now) c.in_ok-push_unnamed.ensures

pub returns-clause-same : goal.returns-clause-same
returns-clause-same g c =
    back c.args.frames.now c.push_unnamed.new.self c.function_value.new.frames c.in_ok-push_unnamed.ensures c.in_ok-made.ensures.same c.mark-mark.result c.truncate.new.self c.mark-mark.ensures c.truncate.ensures.exits c.truncate.ensures.names
