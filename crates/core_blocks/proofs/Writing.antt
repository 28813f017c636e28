-- Functions of a group, one after another.
use Rattle.std.proofs.Common.{◌≡◌, ◌∙◌, ℕ, suc, ◌+◌, ◌<◌, ◌≤◌, List, [], ◌∷◌, ◌++◌, drop, get_or, length, map, refl, sym, ap, subst, arith}
use Rattle.std.proofs.lemmas.List.{at_drop_all, at_drop_more}
use Rattle.core_ir.specs.declared.expression.CoreBody.{CoreBody}
use Rattle.typed_tree.specs.declared.expression.Function.{Function, fold_out-Function}
use Rattle.typed_tree.specs.declared.pattern.TypedPattern.{TypedPattern}
use Rattle.typed_tree.specs.Language.{Exp}
use Rattle.typed_tree.specs.PatternView.{patterns}
use Rattle.typed_tree.specs.Substitution.{count}
use Rattle.typed_tree.specs.View.{CaseView, FunctionView, StepView, case_step, expression, expression_step, form_step, function, function_step, group, step_step}
use Rattle.elaboration.specs.Elaboration.{BodiesElaborated, elaborate_functions, number_of_parameters}
use Rattle.elaboration.specs.Scopes.{Scope}
use Rattle.core_parts.specs.Making.{BodiesMade, BodyMade, Groups, elaborate_body}
use Rattle.core_parts.proofs.Going.{Bodies, all_bodies, next_body}

pub function_is : (f : Function) → function f ≡ record { how = f.sort; nodes = f.nodes; parameters = patterns f.parameters; body = expression f.body }
unfolding expression function
function_is f = fold_out-Function Exp StepView CaseView FunctionView Exp form_step step_step case_step function_step expression_step f

pub parameters_are : (ps : List TypedPattern) → number_of_parameters (patterns ps) ≡ length ps
parameters_are [] = refl
parameters_are (p ∷ ps) = ap suc (parameters_are ps)

pub count_is : (fs : List FunctionView) → count (group fs) ≡ length fs
count_is [] = refl
count_is (f ∷ fs) = ap suc (count_is fs)

pub more_bodies : (xs : List Function) (i : ℕ) (x : Function) (s t : Scope) (whole : BodiesElaborated) (old now new : Groups) (made more : List CoreBody) (b : CoreBody)
    → i < length xs → x ≡ get_or xs i x → t ≡ s → more ≡ made ++ b ∷ [] → Bodies whole (elaborate_functions s (length now) (group (map function (drop i xs)))) old now made
    → BodyMade (elaborate_body s (length now) (function x)) now new b → Bodies whole (elaborate_functions t (length new) (group (map function (drop (i + 1) xs)))) old new more
more_bodies xs i x s t whole old now new made more b below is same longer so one =
    let F : List Function → BodiesElaborated = λ ys. elaborate_functions s (length now) (group (map function ys)) in
    let Of : BodiesElaborated → Type 0 = λ r. Bodies whole r old now made in
    let At : Function → Type 0 = λ y. Bodies whole (F (y ∷ drop (i + 1) xs)) old now made in
    let To : Scope → Type 0 = λ u. Bodies whole (elaborate_functions u (length new) (group (map function (drop (i + 1) xs)))) old new (made ++ b ∷ []) in
    let With : List CoreBody → Type 0 = λ bs. Bodies whole (elaborate_functions t (length new) (group (map function (drop (i + 1) xs)))) old new bs in
    subst With (sym longer) (subst To (sym same)
    (next_body (λ n. elaborate_functions s n (group (map function (drop (i + 1) xs)))) (elaborate_body s (length now) (function x)) whole old now new made b
    (subst At (sym is) (subst Of (at_drop_more F xs i x below) so)) one))

pub no_more_bodies : (xs : List Function) (i : ℕ) (s : Scope) (whole : BodiesElaborated) (old now : Groups) (made : List CoreBody)
    → length xs ≤ i → Bodies whole (elaborate_functions s (length now) (group (map function (drop i xs)))) old now made → BodiesMade whole old now made
no_more_bodies xs i s whole old now made past so =
    let F : List Function → BodiesElaborated = λ ys. elaborate_functions s (length now) (group (map function ys)) in
    let Of : BodiesElaborated → Type 0 = λ r. Bodies whole r old now made in
    all_bodies whole old now made (subst Of (at_drop_all F xs i past) so)
