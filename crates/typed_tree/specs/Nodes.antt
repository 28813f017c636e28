-- How many nodes a typed tree has: one for each expression, each pattern and field of one, each function, and each declaration but an expression.
use Rattle.std.specs.Prelude.{ℕ, ◌+◌, List, [], ◌∷◌, length, map}
use Rattle.typed_tree.specs.declared.expression.TypedExpression.{TypedExpression, fold-TypedExpression}
use Rattle.typed_tree.specs.declared.expression.Step.{Step, fold-Step}
use Rattle.typed_tree.specs.declared.expression.Form.TheOpen as F
use Rattle.typed_tree.specs.declared.pattern.TypedPattern.{TypedPattern}
use Rattle.typed_tree.specs.Patterns.{pattern_nodes}
use Rattle.typed_tree.specs.PatternView.{pattern}

-- of a declaration, all that stand in it, and those without the parameters and bodies of the functions that it declares
pub record StepNodes : Type 0 where
  pub all : ℕ
  pub own : ℕ

abbrev pub total : List ℕ → ℕ
total [] = 0
total (n ∷ ns) = n + total ns

abbrev pub in_pattern : TypedPattern → ℕ
in_pattern p = pattern_nodes (pattern p)

abbrev pub in_patterns : List TypedPattern → ℕ
in_patterns ps = total (map in_pattern ps)

abbrev pub alike : ℕ → StepNodes
alike n = record { all = n; own = n }

abbrev pub form_step : F.Form-F ℕ StepNodes ℕ ℕ ℕ → ℕ
form_step (F.Constant l) = 0
form_step (F.Name x) = 0
form_step (F.Do a es) = total es
form_step (F.If c a b) = c + a + b
form_step (F.Switch token e xs) = e + total xs
form_step (F.While c b) = c + b
form_step (F.Loop b) = b
form_step (F.Repeat b c) = b + c
form_step (F.For p e b) = in_pattern p + e + b
form_step (F.Label e) = e
form_step (F.Try e p b) = e + in_pattern p + b
form_step (F.Update o e f) = e + f
form_step (F.Block steps e) = total (map (λ s. s.all) steps) + e

abbrev pub step_step : F.Step-F ℕ StepNodes ℕ ℕ ℕ → StepNodes
step_step (F.Let p e) = alike (1 + in_pattern p + e)
step_step (F.Var e) = alike (1 + e)
step_step (F.Stable x e) = alike (1 + e)
step_step (F.Functions fs) = record { all = length fs + total fs; own = length fs }
step_step (F.Evaluate e) = alike e

abbrev pub case_step : F.Case-F ℕ StepNodes ℕ ℕ ℕ → ℕ
case_step x = in_pattern x.pattern + x.body

-- of the parameters and the body
abbrev pub function_step : F.Function-F ℕ StepNodes ℕ ℕ ℕ → ℕ
function_step x = in_patterns x.parameters + x.body

abbrev pub expression_step : F.TypedExpression-F ℕ StepNodes ℕ ℕ ℕ → ℕ
expression_step x = 1 + x.form

unfoldable pub in_expression : TypedExpression → ℕ
in_expression = fold-TypedExpression ℕ StepNodes ℕ ℕ ℕ form_step step_step case_step function_step expression_step

unfoldable pub in_step : Step → StepNodes
in_step = fold-Step ℕ StepNodes ℕ ℕ ℕ form_step step_step case_step function_step expression_step

-- of a list of declarations, without the parameters and bodies of the functions that it declares
abbrev pub in_list : List Step → ℕ
in_list steps = total (map (λ s. (in_step s).own) steps)
