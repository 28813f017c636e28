-- The view of expressions, form by form.
use Rattle.std.proofs.Common.{◌≡◌, ℕ, ◌≤◌, refl, sym, ap, ◌∙◌, List, [], ◌∷◌, length, map, Some, arith}
use Rattle.core_ir.specs.declared.expression.Expression.{Expression, fold-roll-Expression}
use Rattle.core_ir.specs.declared.expression.Expression.TheVariants as e
use Rattle.core_ir.specs.declared.expression.Binding.{Binding, fold_out-Binding, fold-roll-Binding}
use Rattle.core_ir.specs.declared.expression.Binding.TheVariants as B
use Rattle.core_ir.specs.declared.expression.Goal.{Goal as GoalTree, fold-roll-Goal}
use Rattle.core_ir.specs.declared.expression.Goal.TheVariants as G
use Rattle.core_ir.specs.declared.primitive.Primitive.{Primitive}
use Rattle.core_ir.specs.declared.primitive.Constructor.{Constructor}
use Rattle.core_ir.specs.declared.expression.Binding.TheOpen as E
use Rattle.core_ir.specs.declared.code.Operand.{Operand}
use Rattle.core_ir.specs.declared.code.Operand.TheVariants.{Slot}
use Rattle.core_ir.specs.Expressions as tree
use Rattle.core_ir.specs.Expressions.{Exp}
use Rattle.core_ir.specs.View.{BindingView, binding_step, expression_step, goal_step, exps, expression, goal, binding, block}
use Rattle.core_laws.specs.Slots.{count, operand, place}

pub block_is : (bs : List Binding) (x : Expression) → expression (e.Block bs x) ≡ block (map binding bs) (expression x)
unfolding expression binding
block_is bs x = ap expression (sym (e.rolls-Block bs x)) ∙ fold-roll-Expression BindingView Exp tree.Goal binding_step expression_step goal_step (E.Block bs x)

-- a binding is computed
step_operand : (x : E.Binding-F BindingView Exp tree.Goal) (names : List Operand) (rest : Exp) (h : ℕ) → operand names (binding_step x rest) h ≡ Slot h
step_operand (E.Value a) names rest h = refl
step_operand (E.Functions k) names rest h = refl

step_place : (x : E.Binding-F BindingView Exp tree.Goal) (rest : Exp) (h : ℕ) → place (binding_step x rest) h ≡ Some h
step_place (E.Value a) rest h = refl
step_place (E.Functions k) rest h = refl

pub block_operand : (bs : List Binding) (x : Expression) (names : List Operand) (h : ℕ) → 1 ≤ length bs → operand names (expression (e.Block bs x)) h ≡ Slot h
unfolding binding
block_operand [] x names h l = absurd (omega (arith, l))
block_operand (b ∷ bs) x names h l =
    ap (λ a. operand names a h) (block_is (b ∷ bs) x ∙ ap (λ (f : BindingView). f (block (map binding bs) (expression x))) (fold_out-Binding BindingView Exp tree.Goal binding_step expression_step goal_step b))
    ∙ step_operand _ names (block (map binding bs) (expression x)) h

pub block_place : (bs : List Binding) (x : Expression) (h : ℕ) → 1 ≤ length bs → place (expression (e.Block bs x)) h ≡ Some h
unfolding binding
block_place [] x h l = absurd (omega (arith, l))
block_place (b ∷ bs) x h l =
    ap (λ a. place a h) (block_is (b ∷ bs) x ∙ ap (λ (f : BindingView). f (block (map binding bs) (expression x))) (fold_out-Binding BindingView Exp tree.Goal binding_step expression_step goal_step b))
    ∙ step_place _ (block (map binding bs) (expression x)) h

pub do_is : (g : GoalTree) (es : List Expression) → expression (e.Do g es) ≡ tree.Do (goal g) (exps (map expression es))
unfolding expression goal
do_is g es = ap expression (sym (e.rolls-Do g es)) ∙ fold-roll-Expression BindingView Exp tree.Goal binding_step expression_step goal_step (E.Do g es)

pub loop_is : (b : Expression) → expression (e.Loop b) ≡ tree.Loop (expression b)
unfolding expression
loop_is b = ap expression (sym (e.rolls-Loop b)) ∙ fold-roll-Expression BindingView Exp tree.Goal binding_step expression_step goal_step (E.Loop b)

pub value_is : (v : Expression) (rest : Exp) → binding (B.Value v) rest ≡ tree.Do (tree.Bind rest) (tree.AnExp (expression v) tree.NoExp)
unfolding expression binding
value_is v rest = ap (λ b. binding b rest) (sym (B.rolls-Value v)) ∙ ap (λ (f : BindingView). f rest) (fold-roll-Binding BindingView Exp tree.Goal binding_step expression_step goal_step (E.Value v))

pub functions_is : (k : ℕ) (rest : Exp) → binding (B.Functions k) rest ≡ tree.Functions k rest
unfolding binding
functions_is k rest = ap (λ b. binding b rest) (sym (B.rolls-Functions k)) ∙ ap (λ (f : BindingView). f rest) (fold-roll-Binding BindingView Exp tree.Goal binding_step expression_step goal_step (E.Functions k))

pub try_is : (a b : Expression) → expression (e.Try a b) ≡ tree.Try (expression a) (expression b)
unfolding expression
try_is a b = ap expression (sym (e.rolls-Try a b)) ∙ fold-roll-Expression BindingView Exp tree.Goal binding_step expression_step goal_step (E.Try a b)

pub choose_is : (p : Primitive) (a b : Expression) → goal (G.Choose p a b) ≡ tree.Choose p (expression a) (expression b)
unfolding expression goal
choose_is p a b = ap goal (sym (G.rolls-Choose p a b)) ∙ fold-roll-Goal BindingView Exp tree.Goal binding_step expression_step goal_step (E.Choose p a b)

pub match_goal_is : (k : Constructor) (a b : Expression) → goal (G.Match k a b) ≡ tree.Match k (expression a) (expression b)
unfolding expression goal
match_goal_is k a b = ap goal (sym (G.rolls-Match k a b)) ∙ fold-roll-Goal BindingView Exp tree.Goal binding_step expression_step goal_step (E.Match k a b)

pub await_is : goal G.Await ≡ tree.Await
unfolding goal
await_is = ap goal (sym G.rolls-Await) ∙ fold-roll-Goal BindingView Exp tree.Goal binding_step expression_step goal_step E.Await

pub count_is : (es : List Expression) → count (exps (map expression es)) ≡ length es
count_is [] = refl
count_is (x ∷ es) = let r = count_is es in omega (arith, r)
