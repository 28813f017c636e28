use Rattle.std.proofs.Common.{◌∙◌, List, [], ◌∷◌, ap, map, sym}
use Rattle.typed_tree.specs.declared.expression.TypedExpression.{TypedExpression}
use Rattle.desugaring.specs.Frames.{Frame}
use Rattle.kernel_parts.specs.Views.{tree_of}
use Rattle.abstract_tree.specs.declared.expressions.Expression.{Expression}
use Rattle.value_scopes.specs.declared.note.Note.{Note}
use Rattle.kernel_data.proofs.Several.{pushed_behind, take_none}
use Rattle.kernel_data.proofs.data.operands.Goals as goal

pub loop-argument-init : goal.loop-argument-init
loop-argument-init g c = record {
  made = c.in_ok-made.ensures ∙ (ap (λ (z : TypedExpression). z ∷ []) c.in_ok-called.ensures.made ∙ ap (λ (l : List (Expression Note)). tree_of c.args.layer.now.types.now c.args.frames.now c.args.function.now ∷ map (tree_of c.args.layer.now.types.now c.args.frames.now) l) (sym (take_none c.args.arguments.now)));
  same = c.in_ok-called.ensures.same;
}

pub loop-argument-preserved : goal.loop-argument-preserved
loop-argument-preserved g c = record {
  made = pushed_behind (tree_of c.args.layer.now.types.now c.args.frames.now) (tree_of c.args.layer.now.types.now c.args.frames.now c.args.function.now) c.args.arguments.now c.loop-argument.argument-index c.argument-item.result c.loop-argument.made c.push.new.self c.in_ok-part.part c.loop-argument-test.true c.argument-item.is c.loop-argument.invariant.made
      (c.in_ok-part.ensures.made ∙ ap (λ (f : Frame). tree_of c.args.layer.now.types.now f c.argument-item.result) c.loop-argument.invariant.same) c.in_ok-push.ensures.ok;
  same = c.in_ok-part.ensures.same ∙ c.loop-argument.invariant.same;
}
