use Rattle.std.proofs.Common.{◌∙◌, ℕ, List, ap}
use Rattle.desugaring.specs.Frames.{Frame, Labelled, with_exit}
use Rattle.kernel_scopes.proofs.Around.{left}
use Rattle.kernel_loops.specs.Loops.{looped_in}
use Rattle.kernel_loops.proofs.labels.labelled_body.Goals as goal

pub returns-clause-made : goal.returns-clause-made
returns-clause-made g c =
    c.in_ok-made.ensures.made ∙ (ap (λ (f : Frame). looped_in c.args.layer.now.types.now f c.args.label.now c.args.a.now) c.in_ok-push_exit.ensures
    ∙ ap (λ (x : List ℕ). looped_in c.args.layer.now.types.now (with_exit (Labelled x) c.args.frames.now) c.args.label.now c.args.a.now) c.in_ok-name.ensures)

pub returns-clause-same : goal.returns-clause-same
returns-clause-same g c = left c.args.frames.now c.push_exit.new.self c.under_label.new.frames c.pop_exit.new.self (Labelled c.in_ok-name.name) c.in_ok-push_exit.ensures c.in_ok-made.ensures.same c.pop_exit.ensures
