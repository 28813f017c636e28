use Rattle.std.proofs.Common.{◌∙◌, ap, refl, sym}
use Rattle.typed_tree.specs.declared.expression.TypedExpression.{TypedExpression}
use Rattle.typed_tree.specs.declared.expression.Form.TheVariants as f
use Rattle.typed_tree.specs.declared.expression.Form.TheOpen as F
use Rattle.kernel_types.specs.Numbers.{number_of}
use Rattle.kernel_nodes.proofs.Rolling.{made_as}
use Rattle.kernel_parts.specs.Views.{tree_of}
use Rattle.desugaring.specs.Frames.{Frame, with_names}
use Rattle.typed_tree.specs.declared.pattern.TypedPattern.{TypedPattern}
use Rattle.kernel_patterns.specs.Written.{pattern_of}
use Rattle.kernel_scopes.specs.Bound.{names_of}
use Rattle.kernel_loops.proofs.binding.iterating.Goals as goal

pub returns-clause-made : goal.returns-clause-made
returns-clause-made g c =
    made_as c.at.result (number_of c.args.layer.now.types.now c.args.note.kind) (number_of c.args.layer.now.types.now c.args.note.kind) (f.For c.in_ok-pattern.pattern c.in_ok-of.of c.in_ok-body.body) (F.For (pattern_of c.args.layer.now.types.now c.args.q.now) (tree_of c.args.layer.now.types.now c.args.frames.now c.args.a.now) (tree_of c.args.layer.now.types.now (with_names (names_of c.args.layer.now.types.now c.args.q.now) c.args.frames.now) c.args.b.now)) refl
    (f.rolls-For (pattern_of c.args.layer.now.types.now c.args.q.now) (tree_of c.args.layer.now.types.now c.args.frames.now c.args.a.now) (tree_of c.args.layer.now.types.now (with_names (names_of c.args.layer.now.types.now c.args.q.now) c.args.frames.now) c.args.b.now)
    ∙ (ap (λ (z : TypedPattern). f.For z (tree_of c.args.layer.now.types.now c.args.frames.now c.args.a.now) (tree_of c.args.layer.now.types.now (with_names (names_of c.args.layer.now.types.now c.args.q.now) c.args.frames.now) c.args.b.now)) (sym c.in_ok-pattern.ensures)
    ∙ (ap (λ (z : TypedExpression). f.For c.in_ok-pattern.pattern z (tree_of c.args.layer.now.types.now (with_names (names_of c.args.layer.now.types.now c.args.q.now) c.args.frames.now) c.args.b.now)) (sym c.in_ok-of.ensures.made)
    ∙ ap (λ (z : TypedExpression). f.For c.in_ok-pattern.pattern c.in_ok-of.of z) (sym (c.in_ok-body.ensures.made ∙ ap (λ (f : Frame). tree_of c.args.layer.now.types.now (with_names (names_of c.args.layer.now.types.now c.args.q.now) f) c.args.b.now) c.in_ok-of.ensures.same))))) c.at.ensures
