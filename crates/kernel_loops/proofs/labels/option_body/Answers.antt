use Rattle.std.proofs.Common.{◌∙◌, ap}
use Rattle.desugaring.specs.Frames.{Frame, Optional}
use Rattle.kernel_parts.specs.Views.{tree_of}
use Rattle.kernel_scopes.proofs.Around.{left}
use Rattle.kernel_loops.proofs.labels.option_body.Goals as goal

pub returns-clause-made : goal.returns-clause-made
returns-clause-made g c = c.in_ok-made.ensures.made ∙ ap (λ (f : Frame). tree_of c.args.layer.now.types.now f c.args.a.now) c.in_ok-push_exit.ensures

pub returns-clause-same : goal.returns-clause-same
returns-clause-same g c = left c.args.frames.now c.push_exit.new.self c.part.new.frames c.pop_exit.new.self (Optional) c.in_ok-push_exit.ensures c.in_ok-made.ensures.same c.pop_exit.ensures
