use Rattle.std.proofs.Common.{◌≡◌, ℕ, sym, ◌∙◌, ap, List, length, map, drop, arith}
use Rattle.std.proofs.lemmas.Result.{IfOk-weaker}
use Rattle.core_ir.specs.declared.expression.Expression.{Expression}
use Rattle.core_ir.specs.FormedExpressions.{count}
use Rattle.core_ir.specs.View.{binding, block, exps, expression, goal as goal_view}
use Rattle.core_measures.specs.declared.measures.Measures.{Measures}
use Rattle.core_measures.specs.Measures.{measures, measures_all, measures_goal, done}
use Rattle.core_measures.specs.Sizes.{size_of}
use Rattle.core_measures.proofs.Views.{count_is, do_is}
use Rattle.core_measures.proofs.walk.+walk.Goals as goal

pub bindings_measures-returns : goal.bindings_measures-returns
bindings_measures-returns t c e same =
    let none : c.loop-number.number ≡ 0 = let z = c.loop-number-test.false in omega (arith, z) in
    c.loop-number.invariant.is e same ∙ ap (λ (n : ℕ). measures (size_of c.args.sizes.now) (block (map binding (drop n c.args.bindings.now)) e)) none

pub expression_measures-returns-in_ok-inside-in-Do : goal.expression_measures-returns-in_ok-inside-in-Do
expression_measures-returns-in_ok-inside-in-Do t c =
    let sizes = size_of c.args.sizes.now in
    let es = c.in-Do.arguments in
    let is = ap (measures sizes) (ap expression c.in-Do.is ∙ do_is c.in-Do.goal es) in
    let all : c.in_ok-inside-in-Do.inside ≡ measures_all sizes (exps (map expression es)) =
    c.in_ok-inside-in-Do.ensures ∙ ap (λ (xs : List Expression). measures_all sizes (exps (map expression xs))) c.as_slice-arguments.ensures in
    let many : c.in_ok-number-in-Do.number ≡ count (exps (map expression es)) = c.in_ok-number-in-Do.ensures ∙ ap (λ (xs : List Expression). length xs) c.as_slice-arguments.ensures ∙ sym (count_is es) in
    IfOk-weaker c.done.result _ _
    (λ (m : Measures) h.
    h ∙ ap (λ (x : Measures). done x c.in_ok-inside-in-Do.inside c.in_ok-number-in-Do.number) c.in_ok-goal-in-Do.ensures
    ∙ ap (λ (x : Measures). done (measures_goal sizes (goal_view c.in-Do.goal)) x c.in_ok-number-in-Do.number) all
    ∙ ap (λ (n : ℕ). done (measures_goal sizes (goal_view c.in-Do.goal)) (measures_all sizes (exps (map expression es))) n) many ∙ sym is)
    c.done.ensures
