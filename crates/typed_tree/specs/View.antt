-- The language's expression that a typed tree stands for. Types are left out, and declarations stand around those behind them.
use Rattle.std.specs.Prelude.{ℕ, List, [], ◌∷◌}
use Rattle.mo_types.specs.declared.datum.Datum.TheVariants as part
use Rattle.mo_types.specs.declared.node.Sort.{Sort}
use Rattle.mo_values.specs.declared.operation.Operation.TheVariants as op
use Rattle.typed_tree.specs.declared.action.Action.TheVariants as action
use Rattle.typed_tree.specs.declared.expression.Form.{Form, fold-Form}
use Rattle.typed_tree.specs.declared.expression.Form.TheOpen as F
use Rattle.typed_tree.specs.declared.expression.Step.{Step, fold-Step}
use Rattle.typed_tree.specs.declared.expression.Case.{Case, fold-Case}
use Rattle.typed_tree.specs.declared.expression.Function.{Function, fold-Function}
use Rattle.typed_tree.specs.declared.expression.TypedExpression.{TypedExpression, fold-TypedExpression}
use Rattle.typed_tree.specs.Language.{Exp, Exps, Cases, Functions, Val, Name, Do, If, Switch, Group, Label, While, Repeat, For, Try, Update, NoExp, AnExp, NoCase, ACase, NoFunction, AFunction, true_value, let_in, then, var_in}
use Rattle.typed_tree.specs.Patterns.{Pat, Pats, Bind, Constant, Present?}
use Rattle.typed_tree.specs.PatternView.{literal_value, pattern, patterns}

abbrev pub exps : List Exp → Exps
exps [] = NoExp
exps (e ∷ es) = AnExp e (exps es)

pub record CaseView : Type 0 where
  pub pattern : Pat
  pub body : Exp

abbrev pub cases : List CaseView → Cases
cases [] = NoCase
cases (x ∷ xs) = ACase x.pattern x.body (cases xs)

pub record FunctionView : Type 0 where
  pub how : Sort
  pub nodes : ℕ
  pub parameters : Pats
  pub body : Exp

abbrev pub group : List FunctionView → Functions
group [] = NoFunction
group (f ∷ fs) = AFunction f.how f.nodes f.parameters f.body (group fs)

-- a declaration around what stands behind it
abbrev pub StepView : Type 0
StepView = Exp → Exp

abbrev pub block : List StepView → Exp → Exp
block [] e = e
block (f ∷ fs) e = f (block fs e)

-- what was kept of a stable variable under this name, or else the value
abbrev pub kept_or : ℕ → Exp → Exp
kept_or x e = Switch (Name x) (ACase (Constant part.Null) e (ACase (Present? Bind) (Name 0) NoCase))

-- `loop b`: a loop whose end is not reached, in the place of an expression of any type
abbrev pub endless : Exp → Exp
endless b = then (While (Val true_value) b) (Do (action.Operate (op.Fail [])) NoExp)

abbrev pub form_step : F.Form-F Exp StepView CaseView FunctionView Exp → Exp
form_step (F.Constant l) = Val (literal_value l)
form_step (F.Name x) = Name x
form_step (F.Do a es) = Do a (exps es)
form_step (F.If c a b) = If c a b
form_step (F.Switch token e xs) = Switch e (cases xs)
form_step (F.While c b) = While c b
form_step (F.Loop b) = endless b
form_step (F.Repeat b c) = Repeat b c
form_step (F.For p e b) = For (pattern p) e b
form_step (F.Label e) = Label e
form_step (F.Try e p b) = Try e (pattern p) b
form_step (F.Update o e f) = Update o e f
form_step (F.Block steps e) = block steps e

abbrev pub step_step : F.Step-F Exp StepView CaseView FunctionView Exp → StepView
step_step (F.Let p e) b = let_in (pattern p) e b
step_step (F.Var e) b = var_in e b
step_step (F.Stable x e) b = var_in (kept_or x e) b
step_step (F.Functions fs) b = Group (group fs) b
step_step (F.Evaluate e) b = then e b

abbrev pub case_step : F.Case-F Exp StepView CaseView FunctionView Exp → CaseView
case_step x = record { pattern = pattern x.pattern; body = x.body }

abbrev pub function_step : F.Function-F Exp StepView CaseView FunctionView Exp → FunctionView
function_step x = record { how = x.sort; nodes = x.nodes; parameters = patterns x.parameters; body = x.body }

abbrev pub expression_step : F.TypedExpression-F Exp StepView CaseView FunctionView Exp → Exp
expression_step x = x.form

unfoldable pub expression : TypedExpression → Exp
expression = fold-TypedExpression Exp StepView CaseView FunctionView Exp form_step step_step case_step function_step expression_step

unfoldable pub form : Form → Exp
form = fold-Form Exp StepView CaseView FunctionView Exp form_step step_step case_step function_step expression_step

unfoldable pub declaration : Step → StepView
declaration = fold-Step Exp StepView CaseView FunctionView Exp form_step step_step case_step function_step expression_step

unfoldable pub case_view : Case → CaseView
case_view = fold-Case Exp StepView CaseView FunctionView Exp form_step step_step case_step function_step expression_step

unfoldable pub function : Function → FunctionView
function = fold-Function Exp StepView CaseView FunctionView Exp form_step step_step case_step function_step expression_step
