use Rattle.std.proofs.Common.{◌∙◌, ℕ, Bool, ap, sym}
use Rattle.typed_tree.specs.declared.expression.Step.TheVariants as v
use Rattle.typed_tree.specs.declared.expression.TypedExpression.{TypedExpression}
use Rattle.desugaring.specs.Frames.{kept_at}
use Rattle.kernel_parts.specs.Views.{tree_of}
use Rattle.kernel_declarations.specs.Becoming.{variable_in}
use Rattle.kernel_declarations.proofs.steps.variable_step.Goals as goal

pub returns-then-stable-clause-made : goal.returns-then-stable-clause-made
returns-then-stable-clause-made g c =
    ap (λ (n : ℕ). v.Stable n c.in_ok-value.value) c.find_kept-kept.ensures
    ∙ (ap (λ (z : TypedExpression). v.Stable (kept_at c.args.frames.now c.args.name.now) z) c.in_ok-value.ensures.made
    ∙ (sym (v.rolls-Stable (kept_at c.args.frames.now c.args.name.now) (tree_of c.args.layer.now.types.now c.args.frames.now c.args.a.now))
    ∙ ap (λ (b : Bool). variable_in c.args.layer.now.types.now c.args.frames.now b c.args.name.now c.args.a.now) (sym c.if-stable.true)))

pub returns-else-stable-clause-made : goal.returns-else-stable-clause-made
returns-else-stable-clause-made g c =
    ap (λ (z : TypedExpression). v.Var z) c.in_ok-value.ensures.made
    ∙ (sym (v.rolls-Var (tree_of c.args.layer.now.types.now c.args.frames.now c.args.a.now))
    ∙ ap (λ (b : Bool). variable_in c.args.layer.now.types.now c.args.frames.now b c.args.name.now c.args.a.now) (sym c.if-stable.false))
