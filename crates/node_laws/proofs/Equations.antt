-- The nodes of typed trees, one layer at a time.
use Rattle.std.proofs.Common.{◌≡◌, ℕ, ◌+◌, List, length, map, ap, ◌∙◌}
use Rattle.mo_types.specs.declared.node.TypeId.{TypeId}
use Rattle.mo_values.specs.declared.operation.Operation.{Operation}
use Rattle.typed_tree.specs.declared.action.Action.{Action}
use Rattle.typed_tree.specs.declared.literal.Literal.{Literal}
use Rattle.typed_tree.specs.declared.pattern.TypedPattern.{TypedPattern}
use Rattle.typed_tree.specs.declared.expression.Form.{Form, fold-Form, roll-Form, fold-roll-Form}
use Rattle.typed_tree.specs.declared.expression.Form.TheOpen as F
use Rattle.typed_tree.specs.declared.expression.Step.{Step, roll-Step, fold-roll-Step}
use Rattle.typed_tree.specs.declared.expression.Case.{Case, fold-Case, roll-Case, fold-roll-Case}
use Rattle.typed_tree.specs.declared.expression.Function.{Function, fold-Function, roll-Function, fold-roll-Function}
use Rattle.typed_tree.specs.declared.expression.TypedExpression.{TypedExpression, fold-roll-TypedExpression}
use Rattle.typed_tree.specs.Nodes.{StepNodes, form_step, step_step, case_step, function_step, expression_step, total, in_pattern, in_patterns, in_expression, in_step}
use Rattle.desugaring.specs.Nodes.{Layer, node_of}

unfoldable pub in_form : Form → ℕ
in_form = fold-Form ℕ StepNodes ℕ ℕ ℕ form_step step_step case_step function_step expression_step

unfoldable pub in_case : Case → ℕ
in_case = fold-Case ℕ StepNodes ℕ ℕ ℕ form_step step_step case_step function_step expression_step

unfoldable pub in_function : Function → ℕ
in_function = fold-Function ℕ StepNodes ℕ ℕ ℕ form_step step_step case_step function_step expression_step

module _ (u : TypeId) where
  layer : (x : Layer) → in_expression (node_of u x) ≡ 1 + in_form (roll-Form x)
  unfolding in_expression in_form in_step
  layer x = fold-roll-TypedExpression ℕ StepNodes ℕ ℕ ℕ form_step step_step case_step function_step expression_step (record { of_type = u; form = roll-Form x })

  pub constant_nodes : (l : Literal) → in_expression (node_of u (F.Constant l)) ≡ 1 + 0
  unfolding in_expression in_form in_step in_case
  constant_nodes l = layer (F.Constant l) ∙ ap (λ n. 1 + n) (fold-roll-Form ℕ StepNodes ℕ ℕ ℕ form_step step_step case_step function_step expression_step (F.Constant l))

  pub name_nodes : (x : ℕ) → in_expression (node_of u (F.Name x)) ≡ 1 + 0
  unfolding in_expression in_form in_step in_case
  name_nodes x = layer (F.Name x) ∙ ap (λ n. 1 + n) (fold-roll-Form ℕ StepNodes ℕ ℕ ℕ form_step step_step case_step function_step expression_step (F.Name x))

  pub action_nodes : (a : Action) (es : List TypedExpression) → in_expression (node_of u (F.Do a es)) ≡ 1 + total (map in_expression es)
  unfolding in_expression in_form in_step in_case
  action_nodes a es = layer (F.Do a es) ∙ ap (λ n. 1 + n) (fold-roll-Form ℕ StepNodes ℕ ℕ ℕ form_step step_step case_step function_step expression_step (F.Do a es))

  pub choice_nodes : (c a b : TypedExpression) → in_expression (node_of u (F.If c a b)) ≡ 1 + (in_expression c + in_expression a + in_expression b)
  unfolding in_expression in_form in_step in_case
  choice_nodes c a b = layer (F.If c a b) ∙ ap (λ n. 1 + n) (fold-roll-Form ℕ StepNodes ℕ ℕ ℕ form_step step_step case_step function_step expression_step (F.If c a b))

  pub switch_nodes : (token : ℕ) (a : TypedExpression) (xs : List Case) → in_expression (node_of u (F.Switch token a xs)) ≡ 1 + (in_expression a + total (map in_case xs))
  unfolding in_expression in_form in_step in_case
  switch_nodes token a xs = layer (F.Switch token a xs) ∙ ap (λ n. 1 + n) (fold-roll-Form ℕ StepNodes ℕ ℕ ℕ form_step step_step case_step function_step expression_step (F.Switch token a xs))

  pub while_nodes : (c b : TypedExpression) → in_expression (node_of u (F.While c b)) ≡ 1 + (in_expression c + in_expression b)
  unfolding in_expression in_form in_step in_case
  while_nodes c b = layer (F.While c b) ∙ ap (λ n. 1 + n) (fold-roll-Form ℕ StepNodes ℕ ℕ ℕ form_step step_step case_step function_step expression_step (F.While c b))

  pub loop_nodes : (b : TypedExpression) → in_expression (node_of u (F.Loop b)) ≡ 1 + in_expression b
  unfolding in_expression in_form in_step in_case
  loop_nodes b = layer (F.Loop b) ∙ ap (λ n. 1 + n) (fold-roll-Form ℕ StepNodes ℕ ℕ ℕ form_step step_step case_step function_step expression_step (F.Loop b))

  pub repeat_nodes : (b c : TypedExpression) → in_expression (node_of u (F.Repeat b c)) ≡ 1 + (in_expression b + in_expression c)
  unfolding in_expression in_form in_step in_case
  repeat_nodes b c = layer (F.Repeat b c) ∙ ap (λ n. 1 + n) (fold-roll-Form ℕ StepNodes ℕ ℕ ℕ form_step step_step case_step function_step expression_step (F.Repeat b c))

  pub for_nodes : (q : TypedPattern) (a b : TypedExpression) → in_expression (node_of u (F.For q a b)) ≡ 1 + (in_pattern q + in_expression a + in_expression b)
  unfolding in_expression in_form in_step in_case
  for_nodes q a b = layer (F.For q a b) ∙ ap (λ n. 1 + n) (fold-roll-Form ℕ StepNodes ℕ ℕ ℕ form_step step_step case_step function_step expression_step (F.For q a b))

  pub label_nodes : (b : TypedExpression) → in_expression (node_of u (F.Label b)) ≡ 1 + in_expression b
  unfolding in_expression in_form in_step in_case
  label_nodes b = layer (F.Label b) ∙ ap (λ n. 1 + n) (fold-roll-Form ℕ StepNodes ℕ ℕ ℕ form_step step_step case_step function_step expression_step (F.Label b))

  pub try_nodes : (a : TypedExpression) (q : TypedPattern) (b : TypedExpression) → in_expression (node_of u (F.Try a q b)) ≡ 1 + (in_expression a + in_pattern q + in_expression b)
  unfolding in_expression in_form in_step in_case
  try_nodes a q b = layer (F.Try a q b) ∙ ap (λ n. 1 + n) (fold-roll-Form ℕ StepNodes ℕ ℕ ℕ form_step step_step case_step function_step expression_step (F.Try a q b))

  pub update_nodes : (o : Operation) (a b : TypedExpression) → in_expression (node_of u (F.Update o a b)) ≡ 1 + (in_expression a + in_expression b)
  unfolding in_expression in_form in_step in_case
  update_nodes o a b = layer (F.Update o a b) ∙ ap (λ n. 1 + n) (fold-roll-Form ℕ StepNodes ℕ ℕ ℕ form_step step_step case_step function_step expression_step (F.Update o a b))

  pub block_nodes : (steps : List Step) (a : TypedExpression) → in_expression (node_of u (F.Block steps a)) ≡ 1 + (total (map (λ s. s.all) (map in_step steps)) + in_expression a)
  unfolding in_expression in_form in_step in_case
  block_nodes steps a = layer (F.Block steps a) ∙ ap (λ n. 1 + n) (fold-roll-Form ℕ StepNodes ℕ ℕ ℕ form_step step_step case_step function_step expression_step (F.Block steps a))

-- ---- declarations, cases and functions

pub let_nodes : (q : TypedPattern) (a : TypedExpression) → in_step (roll-Step (F.Let q a)) ≡ record { all = 1 + in_pattern q + in_expression a; own = 1 + in_pattern q + in_expression a }
unfolding in_expression in_step
let_nodes q a = fold-roll-Step ℕ StepNodes ℕ ℕ ℕ form_step step_step case_step function_step expression_step (F.Let q a)

pub var_nodes : (a : TypedExpression) → in_step (roll-Step (F.Var a)) ≡ record { all = 1 + in_expression a; own = 1 + in_expression a }
unfolding in_expression in_step
var_nodes a = fold-roll-Step ℕ StepNodes ℕ ℕ ℕ form_step step_step case_step function_step expression_step (F.Var a)

pub stable_nodes : (x : ℕ) (a : TypedExpression) → in_step (roll-Step (F.Stable x a)) ≡ record { all = 1 + in_expression a; own = 1 + in_expression a }
unfolding in_expression in_step
stable_nodes x a = fold-roll-Step ℕ StepNodes ℕ ℕ ℕ form_step step_step case_step function_step expression_step (F.Stable x a)

pub evaluated_nodes : (a : TypedExpression) → in_step (roll-Step (F.Evaluate a)) ≡ record { all = in_expression a; own = in_expression a }
unfolding in_expression in_step
evaluated_nodes a = fold-roll-Step ℕ StepNodes ℕ ℕ ℕ form_step step_step case_step function_step expression_step (F.Evaluate a)

pub functions_nodes : (fs : List Function) → in_step (roll-Step (F.Functions fs)) ≡ record { all = length (map in_function fs) + total (map in_function fs); own = length (map in_function fs) }
unfolding in_expression in_step in_function
functions_nodes fs = fold-roll-Step ℕ StepNodes ℕ ℕ ℕ form_step step_step case_step function_step expression_step (F.Functions fs)

pub case_nodes : (q : TypedPattern) (a : TypedExpression) → in_case (roll-Case (record { pattern = q; body = a })) ≡ in_pattern q + in_expression a
unfolding in_expression in_case
case_nodes q a = fold-roll-Case ℕ StepNodes ℕ ℕ ℕ form_step step_step case_step function_step expression_step (record { pattern = q; body = a })

pub function_nodes : (x : F.Function-F Form Step Case Function TypedExpression) → in_function (roll-Function x) ≡ in_patterns x.parameters + in_expression x.body
unfolding in_expression in_function
function_nodes x = fold-roll-Function ℕ StepNodes ℕ ℕ ℕ form_step step_step case_step function_step expression_step x
