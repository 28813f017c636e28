-- What calls are made of.
use Rattle.std.proofs.Common.{◌≡◌, ◌∙◌, ℕ, suc, ◌+◌, ◌<◌, ◌≤◌, List, [], ◌∷◌, ◌++◌, drop, get_or, length, map, refl, sym, ap, ap₂, subst, arith}
use Rattle.std.proofs.lemmas.List.{at_drop_all, at_drop_more}
use Rattle.core_ir.specs.declared.expression.Expression.{Expression}
use Rattle.core_ir.specs.declared.expression.Goal.{fold-roll-Goal}
use Rattle.core_ir.specs.declared.expression.Goal.TheVariants as G
use Rattle.core_ir.specs.declared.expression.Binding.TheOpen as E
use Rattle.core_ir.specs.Expressions as core
use Rattle.core_ir.specs.View as core_view
use Rattle.core_ir.specs.View.{BindingView, binding_step, expression_step, goal_step, goal}
use Rattle.typed_tree.specs.declared.action.Action.TheVariants as action
use Rattle.typed_tree.specs.declared.action.Member.{Member}
use Rattle.typed_tree.specs.declared.expression.TypedExpression.{TypedExpression}
use Rattle.typed_tree.specs.Language.{Exps, Do, NoExp, AnExp}
use Rattle.typed_tree.specs.View.{exps, expression}
use Rattle.elaboration.specs.Elaboration.{ManyElaborated, count_of, elaborate, elaborate_names, elaborate_operands}
use Rattle.elaboration.specs.Members.{Elaborated, amount, bind_all, called, form_of, function_of, levels_from}
use Rattle.elaboration.specs.Scopes.{Scope, beside}
use Rattle.core_members.specs.Seen.{value_as}
use Rattle.core_parts.specs.Making.{Added, AreMade, Groups, IsMade}
use Rattle.core_parts.proofs.Going.{Operands, all_operands, and_others, next_number, next_operand}
use Rattle.core_calls.specs.Calling.{called_at_once, plain}

pub call_is : goal G.Call ≡ core.Call
unfolding goal
call_is = ap goal (sym G.rolls-Call) ∙ fold-roll-Goal BindingView core.Exp core.Goal binding_step expression_step goal_step E.Call

pub plain_made : (g : core.Goal) (d : ManyElaborated) (old new : Groups) (hs : List Expression) (made : Expression)
    → AreMade d old new hs → core_view.expression made ≡ core.Do g (core_view.exps (map core_view.expression hs)) → IsMade (plain g d) old new made
plain_made g d old new hs made many is = (is ∙ ap (core.Do g) many.0, many.1)

-- ---- built-in functions as values

amount_is : (s : Scope) (n : ℕ) (es : Exps) → amount (elaborate_names s n es).exps ≡ count_of es
amount_is s n NoExp = refl
amount_is s n (AnExp e es) = ap suc (amount_is (beside 1 s) (n + length (elaborate s n e).groups) es)

pub value_made : (m : Member) (es : Exps) (s : Scope) (names : ℕ) (old mid new : Groups) (hs : List Expression) (made : Expression) → names ≡ s.names
    → AreMade (elaborate_names s (length old) es) old mid hs → core_view.expression made ≡ (value_as (form_of m) (core_view.exps (map core_view.expression hs)) names (length mid)).exp
    → Added (value_as (form_of m) (core_view.exps (map core_view.expression hs)) names (length mid)).groups mid new → IsMade (elaborate s (length old) (Do (action.BuiltIn m) es)) old new made
value_made m es s names old mid new hs made at many is added =
    let n : ℕ = length old in
    let d : ManyElaborated = elaborate_names s n es in
    let x : core.Exps = core_view.exps (map core_view.expression hs) in
    let V : core.Exps → ℕ → ℕ → Elaborated = λ y k l. value_as (form_of m) y k l in
    let W : ℕ → Elaborated = λ k. function_of (form_of m) (k + s.names) (levels_from s.names k) (n + length d.groups) in
    let whole : V x names (length mid) ≡ V d.exps s.names (n + length d.groups) =
    ap (λ y. V y names (length mid)) many.0 ∙ ap₂ (λ k l. V d.exps k l) at (next_number d.groups old mid many.1) in
    let counted : W (amount d.exps) ≡ W (count_of es) = ap W (amount_is s n es) in
    let then : Added (V d.exps s.names (n + length d.groups)).groups mid new = let Of : Elaborated → Type 0 = λ v. Added v.groups mid new in subst Of whole added in
    let last : Added (W (count_of es)).groups mid new = let Of : Elaborated → Type 0 = λ v. Added v.groups mid new in subst Of counted then in
    (is ∙ ap (λ v. v.exp) whole ∙ ap (λ (v : Elaborated). bind_all d.exps v.exp) counted, last ∙ and_others d.groups (W (count_of es)).groups old mid many.1)

-- ---- calls at once

pub called_made : (m : Member) (es args : Exps) (s : Scope) (names : ℕ) (old mid last new : Groups) (hs bs : List Expression) (made : Expression) → names ≡ s.names
    → AreMade (elaborate_operands s (length old) es) old mid hs → AreMade (elaborate_operands s (length mid) args) mid last bs
    → core_view.expression made ≡ (called (form_of m) (core_view.exps (map core_view.expression hs)) (core_view.exps (map core_view.expression bs)) names (length last)).exp
    → Added (called (form_of m) (core_view.exps (map core_view.expression hs)) (core_view.exps (map core_view.expression bs)) names (length last)).groups last new
    → IsMade (elaborate s (length old) (Do action.Call (called_at_once m es args))) old new made
called_made m es args s names old mid last new hs bs made at first second is added =
    let n : ℕ = length old in
    let d : ManyElaborated = elaborate_operands s n es in
    let e : ManyElaborated = elaborate_operands s (n + length d.groups) args in
    let x : core.Exps = core_view.exps (map core_view.expression hs) in
    let y : core.Exps = core_view.exps (map core_view.expression bs) in
    let k : ℕ = n + length d.groups + length e.groups in
    let E : ℕ → ManyElaborated = λ i. elaborate_operands s i args in
    let then : AreMade e mid last bs = let Of : ManyElaborated → Type 0 = λ z. AreMade z mid last bs in subst Of (ap E (next_number d.groups old mid first.1)) second in
    let number : length last ≡ k = next_number e.groups mid last then.1 ∙ ap (λ i. i + length e.groups) (next_number d.groups old mid first.1) in
    let whole : called (form_of m) x y names (length last) ≡ called (form_of m) d.exps e.exps s.names k =
    ap₂ (λ u v. called (form_of m) u v names (length last)) first.0 then.0 ∙ ap₂ (λ i j. called (form_of m) d.exps e.exps i j) at number in
    let f : Elaborated = called (form_of m) d.exps e.exps s.names k in
    let done : Added f.groups last new = let Of : Elaborated → Type 0 = λ v. Added v.groups last new in subst Of whole added in
    (is ∙ ap (λ v. v.exp) whole, done ∙ (and_others e.groups f.groups mid last then.1 ∙ and_others d.groups (e.groups ++ f.groups) old mid first.1))

-- ---- operands that are names in those behind them

pub more_names : (xs : List TypedExpression) (i : ℕ) (x : TypedExpression) (s t : Scope) (whole : ManyElaborated) (old now new : Groups) (made more : List Expression) (e : Expression)
    → i < length xs → x ≡ get_or xs i x → t ≡ beside 1 s → more ≡ made ++ e ∷ [] → Operands whole (elaborate_names s (length now) (exps (map expression (drop i xs)))) old now made
    → IsMade (elaborate s (length now) (expression x)) now new e → Operands whole (elaborate_names t (length new) (exps (map expression (drop (i + 1) xs)))) old new more
more_names xs i x s t whole old now new made more e below is same longer so one =
    let F : List TypedExpression → ManyElaborated = λ ys. elaborate_names s (length now) (exps (map expression ys)) in
    let Of : ManyElaborated → Type 0 = λ r. Operands whole r old now made in
    let At : TypedExpression → Type 0 = λ y. Operands whole (F (y ∷ drop (i + 1) xs)) old now made in
    let To : Scope → Type 0 = λ u. Operands whole (elaborate_names u (length new) (exps (map expression (drop (i + 1) xs)))) old new (made ++ e ∷ []) in
    let With : List Expression → Type 0 = λ es. Operands whole (elaborate_names t (length new) (exps (map expression (drop (i + 1) xs)))) old new es in
    subst With (sym longer) (subst To (sym same)
    (next_operand (λ n. elaborate_names (beside 1 s) n (exps (map expression (drop (i + 1) xs)))) (elaborate s (length now) (expression x)) whole old now new made e
    (subst At (sym is) (subst Of (at_drop_more F xs i x below) so)) one))

pub no_more_names : (xs : List TypedExpression) (i : ℕ) (s : Scope) (whole : ManyElaborated) (old now : Groups) (made : List Expression)
    → length xs ≤ i → Operands whole (elaborate_names s (length now) (exps (map expression (drop i xs)))) old now made → AreMade whole old now made
no_more_names xs i s whole old now made past so =
    let F : List TypedExpression → ManyElaborated = λ ys. elaborate_names s (length now) (exps (map expression ys)) in
    let Of : ManyElaborated → Type 0 = λ r. Operands whole r old now made in
    all_operands whole old now made (subst Of (at_drop_all F xs i past) so)
