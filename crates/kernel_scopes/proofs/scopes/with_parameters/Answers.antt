use Rattle.std.proofs.Common.{◌∙◌, ap}
use Rattle.desugaring.specs.Frames.{Frame}
use Rattle.kernel_parts.specs.Views.{tree_of}
use Rattle.kernel_scopes.specs.Bound.{parameters_of}
use Rattle.kernel_scopes.proofs.Around.{back, cuts}
use Rattle.kernel_scopes.proofs.scopes.with_parameters.Goals as goal

pub truncate-requires : goal.truncate-requires
truncate-requires g c = cuts c.args.frames.now c.enter_parameters.new.frames c.part.new.frames (parameters_of c.args.layer.now.types.now c.args.parameters.now) (c.in_ok-mark.ensures.pushed c.args.layer.now.types.now) c.in_ok-made.ensures.same c.in_ok-mark.mark c.in_ok-mark.ensures.mark

pub returns-clause-made : goal.returns-clause-made
returns-clause-made g c = c.in_ok-made.ensures.made ∙ ap (λ (f : Frame). tree_of c.args.layer.now.types.now f c.args.body.now) (c.in_ok-mark.ensures.pushed c.args.layer.now.types.now)

pub returns-clause-same : goal.returns-clause-same
returns-clause-same g c =
    back c.args.frames.now c.enter_parameters.new.frames c.part.new.frames (parameters_of c.args.layer.now.types.now c.args.parameters.now) (c.in_ok-mark.ensures.pushed c.args.layer.now.types.now) c.in_ok-made.ensures.same c.in_ok-mark.mark c.truncate.new.self c.in_ok-mark.ensures.mark
    c.truncate.ensures.exits c.truncate.ensures.names
