use Rattle.std.proofs.Common.{◌∙◌, ap, refl, sym}
use Rattle.typed_tree.specs.declared.expression.TypedExpression.{TypedExpression}
use Rattle.typed_tree.specs.declared.expression.Form.TheVariants as f
use Rattle.typed_tree.specs.declared.expression.Form.TheOpen as F
use Rattle.kernel_types.specs.Numbers.{number_of}
use Rattle.kernel_nodes.proofs.Rolling.{made_as}
use Rattle.kernel_parts.specs.Views.{tree_of}
use Rattle.desugaring.specs.Frames.{Frame, with_names}
use Rattle.typed_tree.specs.declared.pattern.TypedPattern.{TypedPattern}
use Rattle.kernel_patterns.specs.Written.{pattern_of}
use Rattle.kernel_scopes.specs.Bound.{names_of}
use Rattle.kernel_loops.proofs.binding.trying.Goals as goal

pub returns-clause-made : goal.returns-clause-made
returns-clause-made g c =
    made_as c.at.result (number_of c.args.layer.now.types.now c.args.note.kind) (number_of c.args.layer.now.types.now c.args.note.kind) (f.Try c.in_ok-body.body c.in_ok-pattern.pattern c.in_ok-handler.handler) (F.Try (tree_of c.args.layer.now.types.now c.args.frames.now c.args.a.now) (pattern_of c.args.layer.now.types.now c.args.q.now) (tree_of c.args.layer.now.types.now (with_names (names_of c.args.layer.now.types.now c.args.q.now) c.args.frames.now) c.args.b.now)) refl
    (f.rolls-Try (tree_of c.args.layer.now.types.now c.args.frames.now c.args.a.now) (pattern_of c.args.layer.now.types.now c.args.q.now) (tree_of c.args.layer.now.types.now (with_names (names_of c.args.layer.now.types.now c.args.q.now) c.args.frames.now) c.args.b.now)
    ∙ (ap (λ (z : TypedExpression). f.Try z (pattern_of c.args.layer.now.types.now c.args.q.now) (tree_of c.args.layer.now.types.now (with_names (names_of c.args.layer.now.types.now c.args.q.now) c.args.frames.now) c.args.b.now)) (sym c.in_ok-body.ensures.made)
    ∙ (ap (λ (z : TypedPattern). f.Try c.in_ok-body.body z (tree_of c.args.layer.now.types.now (with_names (names_of c.args.layer.now.types.now c.args.q.now) c.args.frames.now) c.args.b.now)) (sym c.in_ok-pattern.ensures)
    ∙ ap (λ (z : TypedExpression). f.Try c.in_ok-body.body c.in_ok-pattern.pattern z) (sym (c.in_ok-handler.ensures.made ∙ ap (λ (f : Frame). tree_of c.args.layer.now.types.now (with_names (names_of c.args.layer.now.types.now c.args.q.now) f) c.args.b.now) c.in_ok-body.ensures.same))))) c.at.ensures
