-- Expressions that no expression is a part of.
use Rattle.std.proofs.Common.{◌≡◌, ℕ, ◌+◌, Result, IfOk, ap, refl}
use Rattle.mo_num.specs.declared.memory.Memory.{Memory}
use Rattle.typing_rules.specs.AbstractSyntax as p
use Rattle.abstract_tree.specs.declared.expressions.Expression.{Expression}
use Rattle.abstract_tree.specs.declared.expressions.ExpressionForm.{ExpressionForm}
use Rattle.abstract_tree.specs.TreeView.{plain, plain_form}
use Rattle.abstract_type_walk.specs.Stands.{Is, Stands}
use Rattle.abstract_type_walk.proofs.Spanning.{stands}
use Rattle.abstract_parts.specs.Shapes.{alone}

pub alone_made : (form : p.Form ℕ) (made : ExpressionForm ℕ) (at tokens : ℕ) (r : Result (Expression ℕ × ℕ) Memory) → plain_form made ≡ form
    → IfOk r (Is plain (p.exp at (plain_form made)) (at + tokens)) → IfOk r (Stands plain (alone tokens form) at)
alone_made form made at tokens r h k = stands plain (alone tokens form) (alone tokens form) at _ _ r k refl (ap (p.exp at) h) refl
