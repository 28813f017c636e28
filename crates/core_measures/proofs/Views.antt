-- The view of expressions, form by form, and what is read of lists.
use Rattle.std.proofs.Common.{◌≡◌, ◌≤◌, ◌<◌, ℕ, zero, suc, refl, sym, ap, ◌∙◌, List, [], ◌∷◌, length, map, get_or, arith}
use Rattle.std.proofs.lemmas.Option.{slice_get_read}
use Rattle.core_ir.proofs.Scoping.{nth_got}
use Rattle.core_ir.specs.declared.expression.Expression.{Expression, fold-roll-Expression}
use Rattle.core_ir.specs.declared.expression.Expression.TheVariants as e
use Rattle.core_ir.specs.declared.expression.Binding.{Binding, fold-roll-Binding}
use Rattle.core_ir.specs.declared.expression.Binding.TheVariants as B
use Rattle.core_ir.specs.declared.expression.Goal.{Goal as GoalTree, fold-roll-Goal}
use Rattle.core_ir.specs.declared.expression.Goal.TheVariants as G
use Rattle.core_ir.specs.declared.primitive.Constructor.{Constructor}
use Rattle.core_ir.specs.declared.expression.Binding.TheOpen as E
use Rattle.core_ir.specs.Expressions as tree
use Rattle.core_ir.specs.Expressions.{Exp}
use Rattle.core_ir.specs.FormedExpressions.{count}
use Rattle.core_ir.specs.View.{BindingView, binding_step, expression_step, goal_step, exps, expression, goal, binding, block}
use Rattle.core_measures.specs.Sizes.{size_of}

pub block_is : (bs : List Binding) (x : Expression) → expression (e.Block bs x) ≡ block (map binding bs) (expression x)
unfolding expression binding
block_is bs x = ap expression (sym (e.rolls-Block bs x)) ∙ fold-roll-Expression BindingView Exp tree.Goal binding_step expression_step goal_step (E.Block bs x)

pub do_is : (g : GoalTree) (es : List Expression) → expression (e.Do g es) ≡ tree.Do (goal g) (exps (map expression es))
unfolding expression goal
do_is g es = ap expression (sym (e.rolls-Do g es)) ∙ fold-roll-Expression BindingView Exp tree.Goal binding_step expression_step goal_step (E.Do g es)

pub value_is : (v : Expression) (rest : Exp) → binding (B.Value v) rest ≡ tree.Do (tree.Bind rest) (tree.AnExp (expression v) tree.NoExp)
unfolding expression binding
value_is v rest = ap (λ b. binding b rest) (sym (B.rolls-Value v)) ∙ ap (λ (f : BindingView). f rest) (fold-roll-Binding BindingView Exp tree.Goal binding_step expression_step goal_step (E.Value v))

pub functions_is : (k : ℕ) (rest : Exp) → binding (B.Functions k) rest ≡ tree.Functions k rest
unfolding binding
functions_is k rest = ap (λ b. binding b rest) (sym (B.rolls-Functions k)) ∙ ap (λ (f : BindingView). f rest) (fold-roll-Binding BindingView Exp tree.Goal binding_step expression_step goal_step (E.Functions k))

pub try_is : (a b : Expression) → expression (e.Try a b) ≡ tree.Try (expression a) (expression b)
unfolding expression
try_is a b = ap expression (sym (e.rolls-Try a b)) ∙ fold-roll-Expression BindingView Exp tree.Goal binding_step expression_step goal_step (E.Try a b)

pub match_is : (k : Constructor) (a b : Expression) → goal (G.Match k a b) ≡ tree.Match k (expression a) (expression b)
unfolding expression goal
match_is k a b = ap goal (sym (G.rolls-Match k a b)) ∙ fold-roll-Goal BindingView Exp tree.Goal binding_step expression_step goal_step (E.Match k a b)

pub count_is : (es : List Expression) → count (exps (map expression es)) ≡ length es
count_is [] = refl
count_is (x ∷ es) = let r = count_is es in omega (arith, r)

pub size_read : (sizes : List ℕ) (k x : ℕ) → k < length sizes → x ≡ get_or sizes k x → x ≡ size_of sizes k
size_read sizes k x l read = sym (nth_got 0 sizes k x (slice_get_read sizes (length sizes) k x refl l read))

pub size_missing : (sizes : List ℕ) (k : ℕ) → length sizes ≤ k → 0 ≡ size_of sizes k
size_missing [] k l = refl
size_missing (x ∷ sizes) zero l = absurd (omega (arith, l))
size_missing (x ∷ sizes) (suc k) l = size_missing sizes k (omega (arith, l))
