-- Which conditions always hold.
use Rattle.std.proofs.Common.{◌≡◌, ◌∙◌, ◌≤◌, false, true, List, [], ◌∷◌, length, map, refl, ap, arith}
use Rattle.mo_types.specs.declared.datum.Datum.TheVariants as part
use Rattle.mo_values.specs.Shapes.{Leaf}
use Rattle.typed_tree.specs.declared.expression.Form.TheVariants as e
use Rattle.typed_tree.specs.declared.expression.Step.{Step, fold_out-Step}
use Rattle.typed_tree.specs.declared.expression.Form.TheOpen as F
use Rattle.typed_tree.specs.declared.expression.TypedExpression.{TypedExpression}
use Rattle.typed_tree.specs.Language.{Exp, Val, Made, NoValue}
use Rattle.typed_tree.specs.View.{CaseView, FunctionView, StepView, block, case_step, declaration, expression, expression_step, form, form_step, function_step, step_step}
use Rattle.typed_tree.proofs.Views.{form_views}
use Rattle.elaboration.specs.Elaboration.{is_true}

step_is_false : (x : F.Step-F Exp StepView CaseView FunctionView Exp) (b : Exp) → is_true (step_step x b) ≡ false
step_is_false (F.Let p e) b = refl
step_is_false (F.Var e) b = refl
step_is_false (F.Stable x e) b = refl
step_is_false (F.Functions fs) b = refl
step_is_false (F.Evaluate e) b = refl

-- a declaration stands around what follows it
pub block_is_false : (ss : List Step) (v : TypedExpression) → 1 ≤ length ss → is_true (form (e.Block ss v)) ≡ false
unfolding declaration
block_is_false [] v l = absurd (omega (arith, l))
block_is_false (s ∷ ss) v l =
    ap is_true (form_views.declarations (s ∷ ss) v ∙ ap (λ (f : StepView). f (block (map declaration ss) (expression v))) (fold_out-Step Exp StepView CaseView FunctionView Exp form_step step_step case_step function_step expression_step s))
    ∙ step_is_false _ (block (map declaration ss) (expression v))

abbrev pub truth : Exp
truth = Val (Made (Leaf (part.Flag true)) NoValue)

pub is_truth : (x : Exp) → is_true x ≡ true → x ≡ truth
is_truth (Val (Made (Leaf (part.Flag true)) NoValue)) h = refl
is_truth _ h = absurd (let z : false ≡ true = h in cc)
