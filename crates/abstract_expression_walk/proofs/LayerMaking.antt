-- A form that a function of its own makes.
use Rattle.std.proofs.Common.{◌≡◌, ℕ, Result, IfOk}
use Rattle.mo_num.specs.declared.memory.Memory.{Memory}
use Rattle.mo_syntax.specs.declared.expressions.Expression as written_expression
use Rattle.typing_rules.specs.AbstractExpressions.{ExpressionSpan, in_expression}
use Rattle.abstract_tree.specs.declared.expressions.Expression.{Expression}
use Rattle.abstract_tree.specs.TreeView.{plain}
use Rattle.abstract_type_walk.specs.Stands.{Stands}
use Rattle.abstract_type_walk.proofs.Spanning.{if_ok, as_stands}

pub layer_made : (a : written_expression.Expression) (s : ExpressionSpan) (at : ℕ) (r : Result (Expression ℕ × ℕ) Memory) → in_expression a ≡ s → IfOk r (Stands plain s at) → IfOk r (Stands plain (in_expression a) at)
layer_made a s at r w h = if_ok r (Stands plain s at) (Stands plain (in_expression a) at) h (λ made k. as_stands plain s (in_expression a) at made w k)
