use Rattle.std.proofs.Common.{◌≡◌, ◌∙◌, ℕ, List, ap}
use Rattle.typed_tree.specs.declared.expression.TypedExpression.{TypedExpression}
use Rattle.desugaring.specs.Frames.{Continued, Frame, with_exit}
use Rattle.kernel_nodes.proofs.Rolling.{if_same}
use Rattle.kernel_parts.specs.Views.{tree_of}
use Rattle.kernel_scopes.specs.Bound.{continued_of, label_in}
use Rattle.kernel_scopes.proofs.Around.{left, on_ok}
use Rattle.kernel_scopes.proofs.scopes.continued.Goals as goal

pub returns-clause-made : goal.returns-clause-made
returns-clause-made g c =
    if_same c.label_at_unit.result (label_in c.args.layer.now.types.now c.in_ok-made.made) (continued_of c.args.layer.now.types.now c.args.frames.now c.args.label.now c.args.body.now)
    (ap (λ (z : TypedExpression). label_in c.args.layer.now.types.now z) (c.in_ok-made.ensures.made ∙ (ap (λ (f : Frame). tree_of c.args.layer.now.types.now f c.args.body.now) c.in_ok-push_exit.ensures
    ∙ ap (λ (x : List ℕ). tree_of c.args.layer.now.types.now (with_exit (Continued x) c.args.frames.now) c.args.body.now) c.in_ok-name.ensures))) c.label_at_unit.ensures

pub returns-clause-same : goal.returns-clause-same
returns-clause-same g c =
    on_ok c.label_at_unit.result (c.pop_exit.new.self ≡ c.args.frames.now)
    (left c.args.frames.now c.push_exit.new.self c.part.new.frames c.pop_exit.new.self (Continued c.in_ok-name.name) c.in_ok-push_exit.ensures c.in_ok-made.ensures.same c.pop_exit.ensures)
