-- Typed trees as expressions of the language, one layer at a time.
use Rattle.std.proofs.Common.{◌≡◌, ℕ, List, map, ap, ◌∙◌}
use Rattle.mo_types.specs.declared.node.TypeId.{TypeId}
use Rattle.mo_values.specs.declared.operation.Operation.{Operation}
use Rattle.typed_tree.specs.declared.action.Action.{Action}
use Rattle.typed_tree.specs.declared.literal.Literal.{Literal}
use Rattle.typed_tree.specs.declared.pattern.TypedPattern.{TypedPattern}
use Rattle.typed_tree.specs.declared.expression.Form.{roll-Form, fold-roll-Form}
use Rattle.typed_tree.specs.declared.expression.Form.TheOpen as F
use Rattle.typed_tree.specs.declared.expression.Step.{Step, roll-Step, fold-roll-Step}
use Rattle.typed_tree.specs.declared.expression.Case.{Case}
use Rattle.typed_tree.specs.declared.expression.Function.{Function}
use Rattle.typed_tree.specs.declared.expression.TypedExpression.{TypedExpression, fold-roll-TypedExpression}
use Rattle.typed_tree.specs.Language.{Exp, Val, Name, Do, If, Switch, Group, Label, While, Repeat, For, Try, Update, let_in, then, var_in}
use Rattle.typed_tree.specs.PatternView.{literal_value, pattern}
use Rattle.typed_tree.specs.View.{StepView, CaseView, FunctionView, exps, cases, group, block, kept_or, endless, form_step, step_step, case_step, function_step, expression_step, expression, form, declaration, case_view, function}
use Rattle.desugaring.specs.Nodes.{Layer, node_of}

module _ (u : TypeId) where
  layer : (x : Layer) → expression (node_of u x) ≡ form (roll-Form x)
  unfolding expression form declaration case_view function
  layer x = fold-roll-TypedExpression Exp StepView CaseView FunctionView Exp form_step step_step case_step function_step expression_step (record { of_type = u; form = roll-Form x })

  pub constant_is : (l : Literal) → expression (node_of u (F.Constant l)) ≡ Val (literal_value l)
  unfolding expression form declaration case_view function
  constant_is l = layer (F.Constant l) ∙ fold-roll-Form Exp StepView CaseView FunctionView Exp form_step step_step case_step function_step expression_step (F.Constant l)

  pub name_is : (x : ℕ) → expression (node_of u (F.Name x)) ≡ Name x
  unfolding expression form declaration case_view function
  name_is x = layer (F.Name x) ∙ fold-roll-Form Exp StepView CaseView FunctionView Exp form_step step_step case_step function_step expression_step (F.Name x)

  pub action_is : (a : Action) (es : List TypedExpression) → expression (node_of u (F.Do a es)) ≡ Do a (exps (map expression es))
  unfolding expression form declaration case_view function
  action_is a es = layer (F.Do a es) ∙ fold-roll-Form Exp StepView CaseView FunctionView Exp form_step step_step case_step function_step expression_step (F.Do a es)

  pub choice_is : (c a b : TypedExpression) → expression (node_of u (F.If c a b)) ≡ If (expression c) (expression a) (expression b)
  unfolding expression form declaration case_view function
  choice_is c a b = layer (F.If c a b) ∙ fold-roll-Form Exp StepView CaseView FunctionView Exp form_step step_step case_step function_step expression_step (F.If c a b)

  pub switch_is : (token : ℕ) (a : TypedExpression) (xs : List Case) → expression (node_of u (F.Switch token a xs)) ≡ Switch (expression a) (cases (map case_view xs))
  unfolding expression form declaration case_view function
  switch_is token a xs = layer (F.Switch token a xs) ∙ fold-roll-Form Exp StepView CaseView FunctionView Exp form_step step_step case_step function_step expression_step (F.Switch token a xs)

  pub while_is : (c b : TypedExpression) → expression (node_of u (F.While c b)) ≡ While (expression c) (expression b)
  unfolding expression form declaration case_view function
  while_is c b = layer (F.While c b) ∙ fold-roll-Form Exp StepView CaseView FunctionView Exp form_step step_step case_step function_step expression_step (F.While c b)

  pub loop_is : (b : TypedExpression) → expression (node_of u (F.Loop b)) ≡ endless (expression b)
  unfolding expression form declaration case_view function
  loop_is b = layer (F.Loop b) ∙ fold-roll-Form Exp StepView CaseView FunctionView Exp form_step step_step case_step function_step expression_step (F.Loop b)

  pub repeat_is : (b c : TypedExpression) → expression (node_of u (F.Repeat b c)) ≡ Repeat (expression b) (expression c)
  unfolding expression form declaration case_view function
  repeat_is b c = layer (F.Repeat b c) ∙ fold-roll-Form Exp StepView CaseView FunctionView Exp form_step step_step case_step function_step expression_step (F.Repeat b c)

  pub for_is : (q : TypedPattern) (a b : TypedExpression) → expression (node_of u (F.For q a b)) ≡ For (pattern q) (expression a) (expression b)
  unfolding expression form declaration case_view function
  for_is q a b = layer (F.For q a b) ∙ fold-roll-Form Exp StepView CaseView FunctionView Exp form_step step_step case_step function_step expression_step (F.For q a b)

  pub label_is : (b : TypedExpression) → expression (node_of u (F.Label b)) ≡ Label (expression b)
  unfolding expression form declaration case_view function
  label_is b = layer (F.Label b) ∙ fold-roll-Form Exp StepView CaseView FunctionView Exp form_step step_step case_step function_step expression_step (F.Label b)

  pub try_is : (a : TypedExpression) (q : TypedPattern) (b : TypedExpression) → expression (node_of u (F.Try a q b)) ≡ Try (expression a) (pattern q) (expression b)
  unfolding expression form declaration case_view function
  try_is a q b = layer (F.Try a q b) ∙ fold-roll-Form Exp StepView CaseView FunctionView Exp form_step step_step case_step function_step expression_step (F.Try a q b)

  pub update_is : (o : Operation) (a b : TypedExpression) → expression (node_of u (F.Update o a b)) ≡ Update o (expression a) (expression b)
  unfolding expression form declaration case_view function
  update_is o a b = layer (F.Update o a b) ∙ fold-roll-Form Exp StepView CaseView FunctionView Exp form_step step_step case_step function_step expression_step (F.Update o a b)

  pub block_is : (steps : List Step) (a : TypedExpression) → expression (node_of u (F.Block steps a)) ≡ block (map declaration steps) (expression a)
  unfolding expression form declaration case_view function
  block_is steps a = layer (F.Block steps a) ∙ fold-roll-Form Exp StepView CaseView FunctionView Exp form_step step_step case_step function_step expression_step (F.Block steps a)

-- ---- declarations

pub let_is : (q : TypedPattern) (a : TypedExpression) (r : Exp) → declaration (roll-Step (F.Let q a)) r ≡ let_in (pattern q) (expression a) r
unfolding expression form declaration case_view function
let_is q a r = ap (λ (d : StepView). d r) (fold-roll-Step Exp StepView CaseView FunctionView Exp form_step step_step case_step function_step expression_step (F.Let q a))

pub var_is : (a : TypedExpression) (r : Exp) → declaration (roll-Step (F.Var a)) r ≡ var_in (expression a) r
unfolding expression form declaration case_view function
var_is a r = ap (λ (d : StepView). d r) (fold-roll-Step Exp StepView CaseView FunctionView Exp form_step step_step case_step function_step expression_step (F.Var a))

pub stable_is : (x : ℕ) (a : TypedExpression) (r : Exp) → declaration (roll-Step (F.Stable x a)) r ≡ var_in (kept_or x (expression a)) r
unfolding expression form declaration case_view function
stable_is x a r = ap (λ (d : StepView). d r) (fold-roll-Step Exp StepView CaseView FunctionView Exp form_step step_step case_step function_step expression_step (F.Stable x a))

pub evaluated_is : (a : TypedExpression) (r : Exp) → declaration (roll-Step (F.Evaluate a)) r ≡ then (expression a) r
unfolding expression form declaration case_view function
evaluated_is a r = ap (λ (d : StepView). d r) (fold-roll-Step Exp StepView CaseView FunctionView Exp form_step step_step case_step function_step expression_step (F.Evaluate a))

pub functions_is : (fs : List Function) (r : Exp) → declaration (roll-Step (F.Functions fs)) r ≡ Group (group (map function fs)) r
unfolding expression form declaration case_view function
functions_is fs r = ap (λ (d : StepView). d r) (fold-roll-Step Exp StepView CaseView FunctionView Exp form_step step_step case_step function_step expression_step (F.Functions fs))
