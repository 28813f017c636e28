use Rattle.std.proofs.Common.{◌∙◌, ap}
use Rattle.typed_tree.specs.declared.expression.Case.{roll-Case}
use Rattle.typed_tree.specs.declared.expression.TypedExpression.{TypedExpression}
use Rattle.typed_tree.specs.declared.pattern.TypedPattern.{TypedPattern}
use Rattle.kernel_patterns.specs.Written.{pattern_of}
use Rattle.kernel_loops.proofs.binding.case_value.Goals as goal

pub returns-clause-made : goal.returns-clause-made
returns-clause-made g c =
    ap (λ (p : TypedPattern). roll-Case (record { pattern = p; body = c.in_ok-body.body })) c.in_ok-pattern.ensures
    ∙ ap (λ (e : TypedExpression). roll-Case (record { pattern = pattern_of c.args.layer.now.types.now c.args.one.now.pattern; body = e })) c.in_ok-body.ensures.made
