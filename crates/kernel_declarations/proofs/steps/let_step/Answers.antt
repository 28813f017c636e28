use Rattle.std.proofs.Common.{◌∙◌, ap, sym}
use Rattle.typed_tree.specs.declared.expression.Step.TheVariants as v
use Rattle.typed_tree.specs.declared.expression.TypedExpression.{TypedExpression}
use Rattle.typed_tree.specs.declared.pattern.TypedPattern.{TypedPattern}
use Rattle.kernel_patterns.specs.Written.{pattern_of}
use Rattle.kernel_parts.specs.Views.{tree_of}
use Rattle.kernel_declarations.proofs.steps.let_step.Goals as goal

pub returns-clause-made : goal.returns-clause-made
returns-clause-made g c =
    ap (λ (z : TypedPattern). v.Let z c.in_ok-value.value) c.in_ok-pattern.ensures
    ∙ (ap (λ (z : TypedExpression). v.Let (pattern_of c.args.layer.now.types.now c.args.q.now) z) c.in_ok-value.ensures.made
    ∙ sym (v.rolls-Let (pattern_of c.args.layer.now.types.now c.args.q.now) (tree_of c.args.layer.now.types.now c.args.frames.now c.args.a.now)))
