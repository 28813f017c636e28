-- The view of bindings and blocks.
use Rattle.std.proofs.Common.{◌≡◌, List, map, sym, ap, ◌∙◌}
use Rattle.core_ir.specs.declared.expression.Binding.{Binding, fold-roll-Binding}
use Rattle.core_ir.specs.declared.expression.Binding.TheOpen as E
use Rattle.core_ir.specs.declared.expression.Binding.TheVariants as B
use Rattle.core_ir.specs.declared.expression.Expression.{Expression, fold-roll-Expression}
use Rattle.core_ir.specs.declared.expression.Expression.TheVariants as e
use Rattle.core_ir.specs.Expressions as tree
use Rattle.core_ir.specs.Expressions.{Exp}
use Rattle.core_ir.specs.View.{BindingView, binding_step, expression_step, goal_step, expression, binding, block}

pub value_is : (v : Expression) (rest : Exp) → binding (B.Value v) rest ≡ tree.Do (tree.Bind rest) (tree.AnExp (expression v) tree.NoExp)
unfolding expression binding
value_is v rest = ap (λ b. binding b rest) (sym (B.rolls-Value v)) ∙ ap (λ (f : BindingView). f rest) (fold-roll-Binding BindingView Exp tree.Goal binding_step expression_step goal_step (E.Value v))

pub block_is : (bs : List Binding) (x : Expression) → expression (e.Block bs x) ≡ block (map binding bs) (expression x)
unfolding expression binding
block_is bs x = ap expression (sym (e.rolls-Block bs x)) ∙ fold-roll-Expression BindingView Exp tree.Goal binding_step expression_step goal_step (E.Block bs x)
