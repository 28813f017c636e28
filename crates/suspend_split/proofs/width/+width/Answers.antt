use Rattle.std.proofs.Common.{◌≡◌, ℕ, ◌∙◌, ap, List, length, map, drop, arith}
use Rattle.core_ir.specs.declared.expression.Expression.{Expression}
use Rattle.core_ir.specs.Expressions.{Exp}
use Rattle.core_ir.specs.FormedExpressions.{width, width_all}
use Rattle.core_ir.specs.View.{binding, block, exps, expression}
use Rattle.suspend_split.specs.Makes.{size_of}
use Rattle.suspend_split.proofs.ExpressionViews.{count_is, do_is}
use Rattle.suspend_split.proofs.width.+width.Goals as goal

pub arguments_width-returns : goal.arguments_width-returns
arguments_width-returns t c =
    let none : c.loop-number.number ≡ 0 = let z = c.loop-number-test.false in omega (arith, z) in
    c.loop-number.invariant.is ∙ ap (λ (n : ℕ). width_all (size_of c.args.sizes.now) (exps (map expression (drop n c.args.arguments.now)))) none

pub bindings_width-returns : goal.bindings_width-returns
bindings_width-returns t c e same =
    let none : c.loop-number.number ≡ 0 = let z = c.loop-number-test.false in omega (arith, z) in
    c.loop-number.invariant.is e same ∙ ap (λ (n : ℕ). width (size_of c.args.sizes.now) (block (map binding (drop n c.args.bindings.now)) e)) none

pub expression_width-returns-in_ok-inside-in-Do : goal.expression_width-returns-in_ok-inside-in-Do
expression_width-returns-in_ok-inside-in-Do t c =
    let sizes = size_of c.args.sizes.now in
    let es = c.in-Do.arguments in
    let is = ap (λ (e : Exp). width sizes e) (ap expression c.in-Do.is ∙ do_is c.in-Do.goal es) in
    let all = c.in_ok-inside-in-Do.ensures ∙ ap (λ (es : List Expression). width_all sizes (exps (map expression es))) c.as_slice-arguments.ensures in
    let same = ap (λ (es : List Expression). length es) c.as_slice-arguments.ensures in
    let many = count_is es in
    let last = c.in_ok-goal_width-in-Do.ensures in
    let behind = c.in_ok-behind-in-Do.ensures in
    let most = c.max.ensures in
    omega (arith, is, all, same, many, last, behind, most)
