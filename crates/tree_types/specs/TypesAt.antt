-- The types at the nodes of typed trees: at each expression and each pattern.
use Rattle.std.specs.Prelude.{Bool, true, false, List, [], ◌∷◌, ◌++◌, map, cond, Option, Some, None}
use Rattle.mo_types.specs.declared.node.TypeId.{TypeId}
use Rattle.mo_types.specs.Graph.{node_at}
use Rattle.mo_types.specs.Sub.{Each, IsSomething}
use Rattle.typed_tree.specs.declared.expression.Form.{Form, fold-Form}
use Rattle.typed_tree.specs.declared.expression.Form.TheOpen as F
use Rattle.typed_tree.specs.declared.expression.Step.{Step, fold-Step}
use Rattle.typed_tree.specs.declared.expression.Case.{Case, fold-Case}
use Rattle.typed_tree.specs.declared.expression.Function.{Function, fold-Function}
use Rattle.typed_tree.specs.declared.expression.TypedExpression.{TypedExpression, fold-TypedExpression}
use Rattle.typed_tree.specs.declared.pattern.TypedPattern.{TypedPattern, fold-TypedPattern}
use Rattle.typed_tree.specs.declared.pattern.PatternForm.{PatternForm, fold-PatternForm}
use Rattle.typed_tree.specs.declared.pattern.PatternForm.TheOpen as P
use Rattle.typed_tree.specs.declared.pattern.PatternField.{PatternField, fold-PatternField}
use Rattle.typed_tree.specs.declared.program.Program.{Program}
use Rattle.typed_tree.specs.declared.program.Method.{Method}
use Rattle.typed_tree.specs.Patterns.{Pat, Bind}
use Rattle.typed_tree.specs.PatternView.{pattern}
use Rattle.typed_tree.specs.WellTyped.{WellTyped}

abbrev pub Types : Type 0
Types = List TypeId

abbrev pub joined : List (List TypeId) → List TypeId
joined [] = []
joined (ts ∷ rest) = ts ++ joined rest

-- ---- patterns

abbrev pub pattern_form_step : P.PatternForm-F Types Types Types → Types
pattern_form_step P.Wildcard = []
pattern_form_step P.Bind = []
pattern_form_step (P.Constant l) = []
pattern_form_step (P.Present p) = p
pattern_form_step (P.Tagged l p) = p
pattern_form_step (P.Parts ps) = joined ps
pattern_form_step (P.Fields xs) = joined xs
pattern_form_step (P.Either p q) = p ++ q

abbrev pub field_step : P.PatternField-F Types Types Types → Types
field_step x = x.pattern

abbrev pub pattern_step : P.TypedPattern-F Types Types Types → Types
pattern_step x = x.of_type ∷ x.form

unfoldable pub in_pattern : TypedPattern → Types
in_pattern = fold-TypedPattern Types Types Types pattern_form_step field_step pattern_step

unfoldable pub in_pattern_form : PatternForm → Types
in_pattern_form = fold-PatternForm Types Types Types pattern_form_step field_step pattern_step

unfoldable pub in_field : PatternField → Types
in_field = fold-PatternField Types Types Types pattern_form_step field_step pattern_step

abbrev pub in_patterns : List TypedPattern → Types
in_patterns ps = joined (map in_pattern ps)

abbrev pub is_bind : Pat → Bool
is_bind Bind = true
is_bind _ = false

-- of the pattern of a `let`: one that is a name alone may be that of a future
abbrev pub in_let : TypedPattern → Types
in_let p = cond (is_bind (pattern p)) [] (in_pattern p)

-- ---- expressions

abbrev pub form_step : F.Form-F Types Types Types Types Types → Types
form_step (F.Constant l) = []
form_step (F.Name x) = []
form_step (F.Do a es) = joined es
form_step (F.If e a b) = e ++ (a ++ b)
form_step (F.Switch token e xs) = e ++ joined xs
form_step (F.While e b) = e ++ b
form_step (F.Loop b) = b
form_step (F.Repeat b e) = b ++ e
form_step (F.For p e b) = in_pattern p ++ (e ++ b)
form_step (F.Label e) = e
form_step (F.Try e p b) = in_pattern p ++ (e ++ b)
form_step (F.Update o e f) = e ++ f
form_step (F.Block ss e) = joined ss ++ e

abbrev pub step_step : F.Step-F Types Types Types Types Types → Types
step_step (F.Let p e) = in_let p ++ e
step_step (F.Var e) = e
step_step (F.Stable x e) = e
step_step (F.Functions fs) = joined fs
step_step (F.Evaluate e) = e

abbrev pub case_step : F.Case-F Types Types Types Types Types → Types
case_step x = in_pattern x.pattern ++ x.body

abbrev pub function_step : F.Function-F Types Types Types Types Types → Types
function_step x = in_patterns x.parameters ++ x.body

abbrev pub expression_step : F.TypedExpression-F Types Types Types Types Types → Types
expression_step x = x.of_type ∷ x.form

unfoldable pub in_expression : TypedExpression → Types
in_expression = fold-TypedExpression Types Types Types Types Types form_step step_step case_step function_step expression_step

unfoldable pub in_form : Form → Types
in_form = fold-Form Types Types Types Types Types form_step step_step case_step function_step expression_step

unfoldable pub in_step : Step → Types
in_step = fold-Step Types Types Types Types Types form_step step_step case_step function_step expression_step

unfoldable pub in_case : Case → Types
in_case = fold-Case Types Types Types Types Types form_step step_step case_step function_step expression_step

unfoldable pub in_function : Function → Types
in_function = fold-Function Types Types Types Types Types form_step step_step case_step function_step expression_step

-- ---- programs

abbrev pub in_context : Option TypedPattern → Types
in_context None = []
in_context (Some p) = in_pattern p

abbrev pub in_method : Method → Types
in_method m = in_context m.context ++ in_function m.function

abbrev pub in_optional : Option Function → Types
in_optional None = []
in_optional (Some f) = in_function f

abbrev pub in_program : Program → Types
in_program p = joined (map in_step p.declarations) ++ (joined (map in_method p.methods) ++ (in_optional p.before_upgrade ++ in_optional p.after_upgrade))

-- The type at each node of a well-typed program is one of its graph.
abbrev pub TypesAreThere : Type 0
TypesAreThere = (p : Program) → WellTyped p → Each (λ t. IsSomething (node_at p.types t)) (in_program p)
