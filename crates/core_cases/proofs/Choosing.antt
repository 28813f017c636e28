-- Cases one after another.
use Rattle.std.proofs.Common.{◌≡◌, ◌∙◌, ℕ, ◌+◌, ◌<◌, ◌≤◌, List, [], ◌∷◌, ◌++◌, drop, get_or, length, map, refl, sym, ap, ap₂, subst, append-nil, arith}
use Rattle.std.proofs.lemmas.List.{at_drop_all, at_drop_more}
use Rattle.core_ir.specs.declared.expression.Expression.{Expression}
use Rattle.core_ir.specs.Expressions as core
use Rattle.core_ir.specs.Expressions.{Label}
use Rattle.core_ir.specs.View as core_view
use Rattle.typed_tree.specs.declared.expression.Case.{Case, fold_out-Case}
use Rattle.typed_tree.specs.Language.{Exp, Cases, Switch, NoCase, ACase}
use Rattle.typed_tree.specs.PatternView.{pattern}
use Rattle.typed_tree.specs.View.{CaseView, FunctionView, StepView, case_step, case_view, cases, expression, expression_step, form_step, function_step, step_step}
use Rattle.elaboration.specs.Checks.{Checked, Named, around_all, behind, check, fails}
use Rattle.elaboration.specs.Elaboration.{changed, elaborate, elaborate_cases, joined, on_nearest, whole}
use Rattle.elaboration.specs.Members.{Elaborated, let_in}
use Rattle.elaboration.specs.Scopes.{Scope, beside, inside}
use Rattle.core_layers.specs.declared.layer.Layer.{Layer}
use Rattle.core_layers.specs.Layers.{layered}
use Rattle.core_members.specs.Seen.{seen_groups}
use Rattle.core_parts.specs.Making.{Groups, IsMade, case_tried, cases_under}
use Rattle.core_parts.proofs.Going.{Around, next_value}

pub case_is : (c : Case) → case_view c ≡ record { pattern = pattern c.pattern; body = expression c.body }
unfolding expression case_view
case_is c = fold_out-Case Exp StepView CaseView FunctionView Exp form_step step_step case_step function_step expression_step c

pub switch_is : (s : Scope) (n : ℕ) (e : Exp) (cs : Cases)
    → elaborate s n (Switch e cs) ≡ joined let_in (elaborate s n e) (cases_under s (n + length (elaborate s n e).groups) cs)
switch_is s n e NoCase = refl
switch_is s n e (ACase p b NoCase) = refl
switch_is s n e (ACase p b (ACase q c cs)) = refl

pub only_one : (xs : List Case) (x : Case) (s : Scope) (n : ℕ) → length xs ≡ 1 → x ≡ get_or xs 0 x → cases_under s n (cases (case_view x ∷ [])) ≡ cases_under s n (cases (map case_view xs))
only_one [] x s n l is = absurd (omega (arith, l))
only_one (y ∷ []) x s n l is = ap (λ z. cases_under s n (cases (case_view z ∷ []))) is
only_one (y ∷ z ∷ zs) x s n l is = absurd (omega (arith, l))

pub not_one : (xs : List Case) (s : Scope) (n : ℕ) → (length xs ≡ 1 → ⊥) → changed Label (elaborate_cases s.names (inside (beside 1 s)) n (cases (map case_view xs))) ≡ cases_under s n (cases (map case_view xs))
not_one [] s n l = refl
not_one (y ∷ []) s n l = absurd (l refl)
not_one (y ∷ z ∷ zs) s n l = refl

-- ---- the rest of a list of cases

pub more_cases : (xs : List Case) (i : ℕ) (x : Case) (level : ℕ) (s t : Scope) (d : Elaborated) (old now new : Groups) (outer layers : List Layer) (v : Expression)
    → i < length xs → x ≡ get_or xs i x → t ≡ beside 1 s → Around d (elaborate_cases level s (length now) (cases (map case_view (drop i xs)))) old now outer
    → IsMade (case_tried level s (length now) (case_view x).pattern (case_view x).body) now new v
    → ((f e : core.Exp) → layered layers f e ≡ layered outer f (let_in (core_view.expression v) e)) → Around d (elaborate_cases level t (length new) (cases (map case_view (drop (i + 1) xs)))) old new layers
more_cases xs i x level s t d old now new outer layers v below is same so one more =
    let F : List Case → Elaborated = λ ys. elaborate_cases level s (length now) (cases (map case_view ys)) in
    let Of : Elaborated → Type 0 = λ r. Around d r old now outer in
    let At : Case → Type 0 = λ y. Around d (F (y ∷ drop (i + 1) xs)) old now outer in
    let To : Scope → Type 0 = λ u. Around d (elaborate_cases level u (length new) (cases (map case_view (drop (i + 1) xs)))) old new layers in
    subst To (sym same)
    (next_value (λ n. elaborate_cases level (beside 1 s) n (cases (map case_view (drop (i + 1) xs)))) (case_tried level s (length now) (case_view x).pattern (case_view x).body) d old now new outer layers v
    (subst At (sym is) (subst Of (at_drop_more F xs i x below) so)) one more)

pub no_more_cases : (xs : List Case) (i level : ℕ) (s : Scope) (d : Elaborated) (old now : Groups) (layers : List Layer) (made : Expression)
    → length xs ≤ i → Around d (elaborate_cases level s (length now) (cases (map case_view (drop i xs)))) old now layers → core_view.expression made ≡ Label (layered layers fails fails)
    → IsMade (changed Label d) old now made
no_more_cases xs i level s d old now layers made past so is =
    let F : List Case → Elaborated = λ ys. elaborate_cases level s (length now) (cases (map case_view ys)) in
    let Of : Elaborated → Type 0 = λ r. Around d r old now layers in
    let end : Around d (whole fails) old now layers = subst Of (at_drop_all F xs i past) so in
    (is ∙ ap (λ e. Label e) end.exp, sym (append-nil (seen_groups now)) ∙ end.groups)
