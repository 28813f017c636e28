-- The `switch` expressions of a typed program (Motoko language manual, section "Switch"). Derived forms are written out without one.
use Rattle.std.specs.Prelude.{ℕ, List, [], ◌∷◌, ◌++◌, map, Option, Some, None}
use Rattle.mo_types.specs.declared.node.TypeId.{TypeId}
use Rattle.typed_tree.specs.declared.expression.Form.{Form, fold-Form}
use Rattle.typed_tree.specs.declared.expression.Form.TheOpen as F
use Rattle.typed_tree.specs.declared.expression.Step.{Step, fold-Step}
use Rattle.typed_tree.specs.declared.expression.Case.{Case, fold-Case}
use Rattle.typed_tree.specs.declared.expression.Function.{Function, fold-Function}
use Rattle.typed_tree.specs.declared.expression.TypedExpression.{TypedExpression, fold-TypedExpression}
use Rattle.typed_tree.specs.declared.program.Program.{Program}
use Rattle.typed_tree.specs.declared.program.Method.{Method}
use Rattle.typed_tree.specs.Patterns.{Pat}
use Rattle.typed_tree.specs.PatternView.{pattern}

-- the number of its first token, the type of its value, and the patterns of its cases
pub record Switch : Type 0 where
  pub token : ℕ
  pub of_type : TypeId
  pub patterns : List Pat

abbrev pub switch : ℕ → TypeId → List Pat → Switch
switch n t ps = record { token = n; of_type = t; patterns = ps }

-- the switches of a part, put behind those that were found before
abbrev pub Adding : Type 0
Adding = List Switch → List Switch

-- those of parts, one after another
abbrev pub each : List Adding → Adding
each [] found = found
each (f ∷ fs) found = each fs (f found)

-- what is seen of an expression and of a case
pub record ExpressionSeen : Type 0 where
  pub of_type : TypeId
  pub adding : Adding

pub record CaseSeen : Type 0 where
  pub pattern : Pat
  pub adding : Adding

abbrev pub all_of : List ExpressionSeen → Adding
all_of es = each (map (λ e. e.adding) es)

abbrev pub cases_of : List CaseSeen → Adding
cases_of xs = each (map (λ x. x.adding) xs)

abbrev pub form_step : F.Form-F Adding Adding CaseSeen Adding ExpressionSeen → Adding
form_step (F.Constant l) found = found
form_step (F.Name x) found = found
form_step (F.Do a es) found = all_of es found
form_step (F.If c a b) found = b.adding (a.adding (c.adding found))
form_step (F.Switch token e xs) found = cases_of xs (e.adding (found ++ switch token e.of_type (map (λ x. x.pattern) xs) ∷ []))
form_step (F.While c b) found = b.adding (c.adding found)
form_step (F.Loop b) found = b.adding found
form_step (F.Repeat b c) found = c.adding (b.adding found)
form_step (F.For p e b) found = b.adding (e.adding found)
form_step (F.Label e) found = e.adding found
form_step (F.Try e p b) found = b.adding (e.adding found)
form_step (F.Update o e f) found = f.adding (e.adding found)
form_step (F.Block ss e) found = e.adding (each ss found)

abbrev pub step_step : F.Step-F Adding Adding CaseSeen Adding ExpressionSeen → Adding
step_step (F.Let p e) found = e.adding found
step_step (F.Var e) found = e.adding found
step_step (F.Stable x e) found = e.adding found
step_step (F.Functions fs) found = each fs found
step_step (F.Evaluate e) found = e.adding found

abbrev pub case_step : F.Case-F Adding Adding CaseSeen Adding ExpressionSeen → CaseSeen
case_step x = record { pattern = pattern x.pattern; adding = x.body.adding }

abbrev pub function_step : F.Function-F Adding Adding CaseSeen Adding ExpressionSeen → Adding
function_step x = x.body.adding

abbrev pub expression_step : F.TypedExpression-F Adding Adding CaseSeen Adding ExpressionSeen → ExpressionSeen
expression_step x = record { of_type = x.of_type; adding = x.form }

unfoldable pub in_expression : TypedExpression → ExpressionSeen
in_expression = fold-TypedExpression Adding Adding CaseSeen Adding ExpressionSeen form_step step_step case_step function_step expression_step

unfoldable pub in_form : Form → Adding
in_form = fold-Form Adding Adding CaseSeen Adding ExpressionSeen form_step step_step case_step function_step expression_step

unfoldable pub in_step : Step → Adding
in_step = fold-Step Adding Adding CaseSeen Adding ExpressionSeen form_step step_step case_step function_step expression_step

unfoldable pub in_case : Case → CaseSeen
in_case = fold-Case Adding Adding CaseSeen Adding ExpressionSeen form_step step_step case_step function_step expression_step

unfoldable pub in_function : Function → Adding
in_function = fold-Function Adding Adding CaseSeen Adding ExpressionSeen form_step step_step case_step function_step expression_step

-- ---- of whole programs

abbrev pub in_optional : Option Function → Adding
in_optional None found = found
in_optional (Some f) found = in_function f found

abbrev pub in_steps : List Step → Adding
in_steps ss = each (map in_step ss)

abbrev pub in_methods : List Method → Adding
in_methods ms = each (map (λ m. in_function m.function) ms)

-- all of them, each as often as it stands in the program
abbrev pub switches : Program → List Switch
switches p = in_optional p.after_upgrade (in_optional p.before_upgrade (in_methods p.methods (in_steps p.declarations [])))
