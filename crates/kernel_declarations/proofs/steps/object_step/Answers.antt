use Rattle.std.proofs.Common.{◌∙◌, ap, sym}
use Rattle.typed_tree.specs.declared.expression.Step.TheVariants as v
use Rattle.typed_tree.specs.declared.expression.TypedExpression.{TypedExpression}
use Rattle.typed_tree.specs.declared.pattern.TypedPattern.{TypedPattern}
use Rattle.typing_rules.specs.AbstractSyntax as syntax
use Rattle.kernel_parts.specs.Views.{form_of, list_in}
use Rattle.kernel_declarations.specs.Becoming.{bound_in}
use Rattle.kernel_declarations.proofs.steps.object_step.Goals as goal

pub returns-clause-made : goal.returns-clause-made
returns-clause-made g c =
    let s = c.args.lists.now.layer.types.now in
    let object : TypedExpression = form_of s c.args.frames.now c.args.note (syntax.ObjectBlock (list_in s c.args.fields.now)) in
    ap (λ (z : TypedPattern). v.Let z c.in_ok-value.value) c.in_ok-pattern.ensures
    ∙ (ap (λ (z : TypedExpression). v.Let (bound_in s c.args.note.kind) z) c.in_ok-value.ensures.made
    ∙ sym (v.rolls-Let (bound_in s c.args.note.kind) object))
