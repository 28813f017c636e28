-- What is seen of trees, layer by layer.
use denote.Bor.{Bor}
use Rattle.std.proofs.Common.{◌≡◌, ℕ, List, [], ◌∷◌, ◌++◌, map, refl, sym, ap, ap₂, ◌∙◌}
use Rattle.mo_types.specs.declared.node.TypeId.{TypeId}
use Rattle.typed_tree.specs.declared.expression.Form.{Form, roll-Form, map-Form, fold-roll-Form}
use Rattle.typed_tree.specs.declared.expression.Form.TheOpen as F
use Rattle.typed_tree.specs.declared.expression.Form.TheVariants as form
use Rattle.typed_tree.specs.declared.expression.Step.{Step, roll-Step, map-Step, fold-roll-Step}
use Rattle.typed_tree.specs.declared.expression.Case.{Case, roll-Case, ind-Case, fold-roll-Case}
use Rattle.typed_tree.specs.declared.expression.Function.{Function, roll-Function, fold-roll-Function}
use Rattle.typed_tree.specs.declared.expression.TypedExpression.{TypedExpression, roll-TypedExpression, ind-TypedExpression, fold-roll-TypedExpression}
use Rattle.typed_tree.specs.Patterns.{Pat}
use Rattle.typed_tree.specs.PatternView.{pattern}
use Rattle.switch_coverage.specs.declared.walk.Found.{Found}
use Rattle.switch_coverage.specs.Found.{patterns_in, switches_in}
use Rattle.switch_coverage.specs.Switches.{Switch, switch, Adding, ExpressionSeen, CaseSeen, cases_of, form_step, step_step, case_step, function_step, expression_step, in_expression, in_form, in_step, in_case, in_function}
use Rattle.switch_coverage.proofs.Lists.{one_found}

abbrev pub form_view : F.Form-F Form Step Case Function TypedExpression → Adding
form_view x = form_step (map-Form Form Step Case Function TypedExpression Adding Adding CaseSeen Adding ExpressionSeen in_form in_step in_case in_function in_expression x)

abbrev pub step_view : F.Step-F Form Step Case Function TypedExpression → Adding
step_view x = step_step (map-Step Form Step Case Function TypedExpression Adding Adding CaseSeen Adding ExpressionSeen in_form in_step in_case in_function in_expression x)

pub form_adds : (x : F.Form-F Form Step Case Function TypedExpression) → in_form (roll-Form x) ≡ form_view x
unfolding in_form in_step in_case in_function in_expression
form_adds x = fold-roll-Form Adding Adding CaseSeen Adding ExpressionSeen form_step step_step case_step function_step expression_step x

pub step_adds : (x : F.Step-F Form Step Case Function TypedExpression) → in_step (roll-Step x) ≡ step_view x
unfolding in_form in_step in_case in_function in_expression
step_adds x = fold-roll-Step Adding Adding CaseSeen Adding ExpressionSeen form_step step_step case_step function_step expression_step x

pub case_adds : (x : F.Case-F Form Step Case Function TypedExpression) → in_case (roll-Case x) ≡ record { pattern = pattern x.pattern; adding = (in_expression x.body).adding }
unfolding in_form in_step in_case in_function in_expression
case_adds x = fold-roll-Case Adding Adding CaseSeen Adding ExpressionSeen form_step step_step case_step function_step expression_step x

pub function_adds : (x : F.Function-F Form Step Case Function TypedExpression) → in_function (roll-Function x) ≡ (in_expression x.body).adding
unfolding in_form in_step in_case in_function in_expression
function_adds x = fold-roll-Function Adding Adding CaseSeen Adding ExpressionSeen form_step step_step case_step function_step expression_step x

pub expression_adds : (x : F.TypedExpression-F Form Step Case Function TypedExpression) → in_expression (roll-TypedExpression x) ≡ record { of_type = x.of_type; adding = in_form x.form }
unfolding in_form in_step in_case in_function in_expression
expression_adds x = fold-roll-TypedExpression Adding Adding CaseSeen Adding ExpressionSeen form_step step_step case_step function_step expression_step x

-- ---- of any case and any expression

case_pattern : (x : Case) → (in_case x).pattern ≡ pattern x.pattern
case_pattern = ind-Case (λ x. Unit {0}) (λ x. Unit {0}) (λ x. (in_case x).pattern ≡ pattern x.pattern) (λ x. Unit {0}) (λ x. Unit {0}) (λ x y is. tt) (λ x y is. tt)
    (λ x y is. ap (λ (z : CaseSeen). z.pattern) (case_adds x)) (λ x y is. tt) (λ x y is. tt)

case_patterns : (xs : List Case) → map (λ (x : CaseSeen). x.pattern) (map in_case xs) ≡ patterns_in xs
case_patterns [] = refl
case_patterns (x ∷ xs) = ap₂ (λ (p : Pat) (ps : List Pat). p ∷ ps) (case_pattern x) (case_patterns xs)

expression_seen : (x : TypedExpression) → in_expression x ≡ record { of_type = x.of_type; adding = in_form x.form }
expression_seen = ind-TypedExpression (λ x. Unit {0}) (λ x. Unit {0}) (λ x. Unit {0}) (λ x. Unit {0}) (λ x. in_expression x ≡ record { of_type = x.of_type; adding = in_form x.form }) (λ x y is. tt) (λ x y is. tt) (λ x y is. tt)
    (λ x y is. tt) (λ x y is. expression_adds x)

switch_adds : (token : ℕ) (e : TypedExpression) (xs : List Case) (found : List Switch) → in_form (form.Switch token e xs) found ≡ cases_of (map in_case xs) ((in_expression e).adding (found ++ switch token e.of_type (patterns_in xs) ∷ []))
switch_adds token e xs found =
    ap (λ (f : Adding). f found) (ap in_form (sym (form.rolls-Switch token e xs)) ∙ form_adds (F.Switch token e xs))
    ∙ ap₂ (λ (t : TypeId) (ps : List Pat). cases_of (map in_case xs) ((in_expression e).adding (found ++ switch token t ps ∷ []))) (ap (λ (z : ExpressionSeen). z.of_type) (expression_seen e)) (case_patterns xs)

-- a `switch`, whose cases are looked into behind its value
pub switch_walked : (x e : TypedExpression) (seen : Form) (token : ℕ) (xs second : List Case) (old pushed : List Found) (middle : List Switch) (cases : Bor (List Case)) → seen ≡ x.form → seen ≡ form.Switch token e xs
    → cases.now ≡ xs → pushed ≡ old ++ record { token = token; of_type = e.of_type; cases = cases } ∷ [] → middle ≡ (in_expression e).adding (switches_in pushed) → second ≡ xs
    → cases_of (map in_case second) middle ≡ (in_expression x).adding (switches_in old)
switch_walked x e seen token xs second old pushed middle cases g is c p m s =
    ap₂ (λ (ys : List Case) (ms : List Switch). cases_of (map in_case ys) ms) s (m ∙ ap (in_expression e).adding (ap switches_in p ∙ one_found old (record { token = token; of_type = e.of_type; cases = cases })
    ∙ ap (λ (ys : List Case). switches_in old ++ switch token e.of_type (patterns_in ys) ∷ []) c))
    ∙ sym (switch_adds token e xs (switches_in old)) ∙ ap (λ (f : Form). in_form f (switches_in old)) (sym is ∙ g) ∙ sym (ap (λ (z : ExpressionSeen). z.adding (switches_in old)) (expression_seen x))
