use Rattle.std.proofs.Common.{◌∙◌, [], ◌∷◌, ap, sym}
use Rattle.typed_tree.specs.declared.expression.Step.{Step}
use Rattle.typed_tree.specs.declared.expression.Step.TheVariants as v
use Rattle.typed_tree.specs.declared.expression.TypedExpression.{TypedExpression}
use Rattle.kernel_parts.specs.Views.{tree_of}
use Rattle.kernel_declarations.specs.Becoming.{value_becomes}
use Rattle.kernel_declarations.proofs.Writing.{written}
use Rattle.kernel_declarations.proofs.steps.write_evaluated.Goals as goal

pub returns : goal.returns
returns g c =
    written (value_becomes c.args.layer.now.types.now c.args.a.now) c.args.steps.now c.push.new.self c.args.frames.now c.part.new.frames c.push.result (v.Evaluate c.in_ok-value.value ∷ [])
    (ap (λ (z : TypedExpression). v.Evaluate z ∷ []) c.in_ok-value.ensures.made
    ∙ ap (λ (z : Step). z ∷ []) (sym (v.rolls-Evaluate (tree_of c.args.layer.now.types.now c.args.frames.now c.args.a.now))))
    c.in_ok-value.ensures.same
    c.push.ensures.ok
