-- Expressions form by form.
use Rattle.std.proofs.Common.{◌≡◌, ◌∙◌, ℕ, [], length, sym, ap, subst, append-nil}
use Rattle.std.specs.Prelude.{Result, IfOk}
use Rattle.mo_num.specs.declared.memory.Memory.{Memory}
use Rattle.core_ir.specs.declared.expression.Expression.{Expression}
use Rattle.core_ir.specs.Expressions as core
use Rattle.core_ir.specs.View as core_view
use Rattle.typed_tree.specs.declared.expression.Form.{Form}
use Rattle.typed_tree.specs.declared.expression.TypedExpression.{TypedExpression, fold_out-TypedExpression}
use Rattle.typed_tree.specs.Language.{Exp}
use Rattle.typed_tree.specs.View.{CaseView, FunctionView, StepView, case_step, expression, expression_step, form, form_step, function_step, step_step}
use Rattle.elaboration.specs.Elaboration.{elaborate, whole}
use Rattle.elaboration.specs.Scopes.{Scope}
use Rattle.core_members.specs.Seen.{seen_groups}
use Rattle.core_parts.specs.Making.{Groups, IsMade}
use Rattle.core_parts.proofs.Going.{on_ok}

pub expression_is : (t : TypedExpression) (f : Form) → t.form ≡ f → expression t ≡ form f
unfolding expression form
expression_is t f e = fold_out-TypedExpression Exp StepView CaseView FunctionView Exp form_step step_step case_step function_step expression_step t ∙ ap form e

-- what is made of an expression of this form is made of it
pub in_form : (t : TypedExpression) (f : Form) (x : Exp) (s : Scope) (old new : Groups) (r : Result Expression Memory) → t.form ≡ f → form f ≡ x
    → IfOk r (λ made. IsMade (elaborate s (length old) x) old new made) → IfOk r (λ made. IsMade (elaborate s (length old) (expression t)) old new made)
in_form t f x s old new r is view made =
    let Of : Exp → Type 0 = λ y. IfOk r (λ m. IsMade (elaborate s (length old) y) old new m) in
    subst Of (sym (expression_is t f is ∙ view)) made

pub no_groups : (e : core.Exp) (old : Groups) (r : Result Expression Memory) → IfOk r (λ made. core_view.expression made ≡ e) → IfOk r (λ made. IsMade (whole e) old old made)
no_groups e old r h = on_ok r h (λ made is. (is, sym (append-nil (seen_groups old))))
