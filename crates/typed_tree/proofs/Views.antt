-- The view of trees, one layer at a time.
use Rattle.std.proofs.Common.{◌≡◌, sym, ap, ◌∙◌}
use Rattle.typed_tree.specs.declared.pattern.TypedPattern.{TypedPattern, roll-TypedPattern, fold-roll-TypedPattern}
use Rattle.typed_tree.specs.declared.pattern.PatternForm.{PatternForm, fold-roll-PatternForm}
use Rattle.typed_tree.specs.declared.pattern.PatternForm.TheVariants as p
use Rattle.typed_tree.specs.declared.pattern.PatternForm.TheOpen as P
use Rattle.typed_tree.specs.declared.pattern.PatternField.{PatternField, roll-PatternField, fold-roll-PatternField}
use Rattle.typed_tree.specs.declared.expression.Form.{fold-roll-Form}
use Rattle.typed_tree.specs.declared.expression.Form.TheVariants as e
use Rattle.typed_tree.specs.declared.expression.Form.TheOpen as F
use Rattle.typed_tree.specs.declared.expression.Step.{fold-roll-Step}
use Rattle.typed_tree.specs.declared.expression.Step.TheVariants as s
use Rattle.typed_tree.specs.declared.expression.Case.{fold-roll-Case}
use Rattle.typed_tree.specs.declared.expression.Function.{fold-roll-Function}
use Rattle.typed_tree.specs.declared.expression.TypedExpression.{fold-roll-TypedExpression}
use Rattle.typed_tree.specs.Language.{Exp}
use Rattle.typed_tree.specs.Patterns.{Pat}
use Rattle.typed_tree.specs.PatternView.{LabelledPat, pattern, pattern_form}
use Rattle.typed_tree.specs.PatternView as q
use Rattle.typed_tree.specs.View.{StepView, CaseView, FunctionView, form_step, step_step, case_step, function_step, expression_step, expression, form, declaration, case_view, function}
use Rattle.typed_tree.specs.ViewLaws.{field, PatternViews, FormViews, DeclarationViews}

-- ---- patterns

pattern_layer : (x : P.TypedPattern-F PatternForm PatternField TypedPattern) → pattern (roll-TypedPattern x) ≡ pattern_form x.form
unfolding pattern pattern_form
pattern_layer x = fold-roll-TypedPattern Pat LabelledPat Pat q.form_step q.field_step q.pattern_step x

field_layer : (x : P.PatternField-F PatternForm PatternField TypedPattern) → field (roll-PatternField x) ≡ record { label = x.label; pattern = pattern x.pattern }
unfolding pattern field
field_layer x = fold-roll-PatternField Pat LabelledPat Pat q.form_step q.field_step q.pattern_step x

pub pattern_views : PatternViews
unfolding pattern pattern_form field
pattern_views = record {
  typed = λ t f. pattern_layer (record { of_type = t; form = f });
  wildcard = ap pattern_form (sym (p.rolls-Wildcard)) ∙ fold-roll-PatternForm Pat LabelledPat Pat q.form_step q.field_step q.pattern_step P.Wildcard;
  bind = ap pattern_form (sym (p.rolls-Bind)) ∙ fold-roll-PatternForm Pat LabelledPat Pat q.form_step q.field_step q.pattern_step P.Bind;
  constant = λ l. ap pattern_form (sym (p.rolls-Constant l)) ∙ fold-roll-PatternForm Pat LabelledPat Pat q.form_step q.field_step q.pattern_step (P.Constant l);
  present = λ r. ap pattern_form (sym (p.rolls-Present r)) ∙ fold-roll-PatternForm Pat LabelledPat Pat q.form_step q.field_step q.pattern_step (P.Present r);
  tagged = λ l r. ap pattern_form (sym (p.rolls-Tagged l r)) ∙ fold-roll-PatternForm Pat LabelledPat Pat q.form_step q.field_step q.pattern_step (P.Tagged l r);
  parts = λ rs. ap pattern_form (sym (p.rolls-Parts rs)) ∙ fold-roll-PatternForm Pat LabelledPat Pat q.form_step q.field_step q.pattern_step (P.Parts rs);
  fields = λ fs. ap pattern_form (sym (p.rolls-Fields fs)) ∙ fold-roll-PatternForm Pat LabelledPat Pat q.form_step q.field_step q.pattern_step (P.Fields fs);
  either = λ r u. ap pattern_form (sym (p.rolls-Either r u)) ∙ fold-roll-PatternForm Pat LabelledPat Pat q.form_step q.field_step q.pattern_step (P.Either r u);
  labelled = λ l r. field_layer (record { label = l; pattern = r });
}

-- ---- expressions

pub form_views : FormViews
unfolding expression form declaration case_view function
form_views = record {
  typed = λ t f. fold-roll-TypedExpression Exp StepView CaseView FunctionView Exp form_step step_step case_step function_step expression_step (record { of_type = t; form = f });
  constant = λ l. ap form (sym (e.rolls-Constant l)) ∙ fold-roll-Form Exp StepView CaseView FunctionView Exp form_step step_step case_step function_step expression_step (F.Constant l);
  name = λ x. ap form (sym (e.rolls-Name x)) ∙ fold-roll-Form Exp StepView CaseView FunctionView Exp form_step step_step case_step function_step expression_step (F.Name x);
  operands = λ a es. ap form (sym (e.rolls-Do a es)) ∙ fold-roll-Form Exp StepView CaseView FunctionView Exp form_step step_step case_step function_step expression_step (F.Do a es);
  choice = λ c a b. ap form (sym (e.rolls-If c a b)) ∙ fold-roll-Form Exp StepView CaseView FunctionView Exp form_step step_step case_step function_step expression_step (F.If c a b);
  switch = λ token a xs. ap form (sym (e.rolls-Switch token a xs)) ∙ fold-roll-Form Exp StepView CaseView FunctionView Exp form_step step_step case_step function_step expression_step (F.Switch token a xs);
  while = λ c b. ap form (sym (e.rolls-While c b)) ∙ fold-roll-Form Exp StepView CaseView FunctionView Exp form_step step_step case_step function_step expression_step (F.While c b);
  loop = λ b. ap form (sym (e.rolls-Loop b)) ∙ fold-roll-Form Exp StepView CaseView FunctionView Exp form_step step_step case_step function_step expression_step (F.Loop b);
  repeat = λ b c. ap form (sym (e.rolls-Repeat b c)) ∙ fold-roll-Form Exp StepView CaseView FunctionView Exp form_step step_step case_step function_step expression_step (F.Repeat b c);
  for = λ r a b. ap form (sym (e.rolls-For r a b)) ∙ fold-roll-Form Exp StepView CaseView FunctionView Exp form_step step_step case_step function_step expression_step (F.For r a b);
  label = λ b. ap form (sym (e.rolls-Label b)) ∙ fold-roll-Form Exp StepView CaseView FunctionView Exp form_step step_step case_step function_step expression_step (F.Label b);
  attempt = λ a r b. ap form (sym (e.rolls-Try a r b)) ∙ fold-roll-Form Exp StepView CaseView FunctionView Exp form_step step_step case_step function_step expression_step (F.Try a r b);
  update = λ o a b. ap form (sym (e.rolls-Update o a b)) ∙ fold-roll-Form Exp StepView CaseView FunctionView Exp form_step step_step case_step function_step expression_step (F.Update o a b);
  declarations = λ ss a. ap form (sym (e.rolls-Block ss a)) ∙ fold-roll-Form Exp StepView CaseView FunctionView Exp form_step step_step case_step function_step expression_step (F.Block ss a);
}

-- ---- declarations, cases and functions

pub declaration_views : DeclarationViews
unfolding expression form declaration case_view function
declaration_views = record {
  value = λ r a b. ap (λ d. declaration d b) (sym (s.rolls-Let r a)) ∙ ap (λ (f : StepView). f b) (fold-roll-Step Exp StepView CaseView FunctionView Exp form_step step_step case_step function_step expression_step (F.Let r a));
  variable = λ a b. ap (λ d. declaration d b) (sym (s.rolls-Var a)) ∙ ap (λ (f : StepView). f b) (fold-roll-Step Exp StepView CaseView FunctionView Exp form_step step_step case_step function_step expression_step (F.Var a));
  stable = λ x a b. ap (λ d. declaration d b) (sym (s.rolls-Stable x a)) ∙ ap (λ (f : StepView). f b) (fold-roll-Step Exp StepView CaseView FunctionView Exp form_step step_step case_step function_step expression_step (F.Stable x a));
  functions = λ fs b. ap (λ d. declaration d b) (sym (s.rolls-Functions fs)) ∙ ap (λ (f : StepView). f b) (fold-roll-Step Exp StepView CaseView FunctionView Exp form_step step_step case_step function_step expression_step (F.Functions fs));
  evaluated = λ a b. ap (λ d. declaration d b) (sym (s.rolls-Evaluate a)) ∙ ap (λ (f : StepView). f b) (fold-roll-Step Exp StepView CaseView FunctionView Exp form_step step_step case_step function_step expression_step (F.Evaluate a));
  case_of = λ r a. fold-roll-Case Exp StepView CaseView FunctionView Exp form_step step_step case_step function_step expression_step (record { pattern = r; body = a });
  function_of = λ how ts n rs a. fold-roll-Function Exp StepView CaseView FunctionView Exp form_step step_step case_step function_step expression_step (record { sort = how; type_parameters = ts; nodes = n; parameters = rs; body = a });
}
